-- The host's commands drop the host's translations, all others those of guests.
use Rattle.std.proofs.Common.{◌≡◌, ℕ, ◌&&◌, Bool, true, false, not, Option, Some, None, refl}
use Rattle.std.specs.Option.{is_none}
use Rattle.std.proofs.lemmas.Bool.{and_parts}
use Rattle.iom_nested.specs.declared.translation.Hit.{Hit}
use Rattle.iom_queue.specs.declared.command.Command.{Command}
use Rattle.iom_queue.specs.declared.command.Command.TheVariants.{Vma, Gvma, Fence, Iodir}
use Rattle.iom_cache.specs.declared.key.Key.{Key}
use Rattle.iom_cache.specs.Drops.{drops_page, gvma_guest, vma_guest, vma_page, vma_process, leaf_width}
use Rattle.iom_cache.specs.Spared.{is_of_host}

by_vma : (gv : Bool) (gscid : ℕ) (own : Option ℕ) → vma_guest gv gscid own ≡ true → is_none own ≡ not gv
by_vma false gscid own is = is
by_vma true gscid None is = absurd (cc is)
by_vma true gscid (Some own) is = refl

by_gvma : (gv : Bool) (gscid : ℕ) (own : Option ℕ) → gvma_guest gv gscid own ≡ true → is_none own ≡ false
by_gvma gv gscid (Some own) is = refl
by_gvma false gscid None is = absurd (cc is)
by_gvma true gscid None is = absurd (cc is)

pub drops_its_own : (command : Command) (key : Key) (hit : Hit) → drops_page command key hit ≡ true → is_none key.gscid ≡ is_of_host command
unfolding drops_page
drops_its_own (Vma av page pscv pscid gv gscid nl s) key hit is =
    let tags = and_parts (vma_guest gv gscid key.gscid && vma_process pscv pscid key.pscid hit.global) (vma_page av s page key.page (leaf_width hit)) is in
    by_vma gv gscid key.gscid (and_parts (vma_guest gv gscid key.gscid) (vma_process pscv pscid key.pscid hit.global) tags.0).0
drops_its_own (Gvma av page pscid gv gscid nl s) key hit is = by_gvma gv gscid key.gscid is
drops_its_own (Fence av wsi pr pw value addr) key hit is = absurd (cc is)
drops_its_own (Iodir dv did) key hit is = absurd (cc is)
