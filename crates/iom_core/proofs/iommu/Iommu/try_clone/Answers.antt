use Rattle.iom_core.proofs.iommu.Iommu.try_clone.Goals as goal

pub returns : goal.returns
returns c = rw (c.in_ok-contexts.ensures, c.in_ok-pages.ensures) c.self.view_is
