use Rattle.iom_reader.proofs.Feeding.{kept_part}
use Rattle.iom_reader.proofs.rest.Rest.keep.Goals as goal

pub returns-clause-line : goal.returns-clause-line
returns-clause-line c =
    kept_part _ _ _ _ _ c.try_extend_from_slice-fits.result c.remaining_capacity.ensures c.min-count.ensures
    c.try_extend_from_slice-fits.ensures.variant c.try_extend_from_slice-fits.ensures.ok
