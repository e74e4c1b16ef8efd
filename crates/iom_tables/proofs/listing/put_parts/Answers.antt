use Rattle.std.proofs.Common.{◌≡◌, ◌<◌, ◌-◌, ◌++◌, ◌∙◌, List, [], ◌∷◌, Some, ap, arith, length, rules, slice_get, subst, sym}
use Rattle.std.proofs.lemmas.List.{length-append}
use Rattle.std.proofs.lemmas.Option.{slice_get-get_or}
use Rattle.std.proofs.Math.Seq.{get_or-append_seam}
use Rattle.iom_core.specs.declared.looking.Lookup.{Lookup}
use Rattle.iom_tables.specs.declared.part.Part.{Part}
use Rattle.iom_tables.specs.declared.part.Part.TheVariants as part
use Rattle.iom_regs.specs.Sound.{IsSound}
use Rattle.iom_tables.specs.Parts.{parts_of}
use Rattle.iom_tables.proofs.Bounds.{each_fits}
use Rattle.iom_tables.proofs.Fetches.{each_read_of}
use Rattle.iom_tables.proofs.Passing.{each_passes_of}
use Rattle.iom_tables.proofs.Refusing.{some_refuses_of}
use Rattle.iom_tables.proofs.listing.put_parts.Goals as goal

pub returns-clause-parts : goal.returns-clause-parts
unfolding parts_of
returns-clause-parts c = search rules

pub returns-clause-read : goal.returns-clause-read
returns-clause-read c = each_read_of c.args.platform.now.machine c.args.request.now _ (returns-clause-parts c)

pub returns-clause-passed : goal.returns-clause-passed
returns-clause-passed c = each_passes_of c.args.platform.now.machine c.args.request.now _ (returns-clause-parts c)

pub returns-clause-refused : goal.returns-clause-refused
returns-clause-refused c = some_refuses_of c.args.platform.now.machine c.args.request.now _ (returns-clause-parts c)

pub returns-clause-fits : goal.returns-clause-fits
returns-clause-fits c =
    each_fits c.args.platform.now.machine c.args.request.now _ (returns-clause-parts c) (subst IsSound c.registers-registers.ensures c.mode-mode.ensures.sound)
    c.push_walk.ensures.fits

end_of : (all before : List Part) (last : Part) → all ≡ before ++ last ∷ [] → slice_get all (length all - 1) ≡ Some last
end_of all before last is =
    let size : length (before ++ last ∷ []) - 1 ≡ length before = rw (length-append before (last ∷ [])) (omega arith) in
    let within : length before < length (before ++ last ∷ []) = rw (length-append before (last ∷ [])) (omega arith) in
    subst (λ (l : List Part). slice_get l (length l - 1) ≡ Some last) (sym is)
    (rw size (slice_get-get_or (before ++ last ∷ []) (length before) last within ∙ ap (λ (p : Part). Some p) (get_or-append_seam before last [] last)))

pub returns-clause-end : goal.returns-clause-end
returns-clause-end c =
    end_of c.push-2.new.self.items c.push_walk.new.out.items (part.End c.lookup_uncached.result.way) c.push-2.ensures.items
    ∙ ap (λ (seen : Lookup). Some (part.End seen.way)) c.lookup_uncached.ensures.seen
