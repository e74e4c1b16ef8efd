-- The entries that may be held and name physical memory.
use Rattle.std.proofs.Common.{◌≡◌, ◌∙◌, ℕ, Bool, true, false, List, [], ◌∷◌, Option, Some, None, if◌then◌else◌, refl, sym, ap, subst, inl, inr}
use Rattle.std.specs.Prelude.{filter}
use Rattle.iom_choices.specs.Systems.{IsAmong}
use Rattle.iom_choices.proofs.Lists.{IsPassed, passed}
use Rattle.iom_core.specs.State.{State}
use Rattle.iom_core.specs.declared.access.Request.{Request}
use Rattle.iom_core.specs.declared.step.Step.{Step}
use Rattle.iom_every.specs.declared.entry.Entry.{Entry}
use Rattle.iom_every.specs.Frames.{names_memory}
use Rattle.iom_held.specs.Kept.{entry_of}
use Rattle.iom_held.specs.Naming.{AreTold, naming}
use Rattle.iom_held.specs.declared.kept.Kept.{Kept}
use Rattle.iom_held.specs.declared.naming.Naming.{Naming}
use Rattle.iom_held.proofs.Lists.{IsFrom, among_of, from_among}
use Rattle.iom_owed.specs.Holdings.{HoldingsView, Keeps}
use Rattle.iom_owed.specs.Naming.{AreNaming}
use Rattle.iom_owed.specs.Newest.{steps_of}

-- what passes a test is left by its filter
passes : {X : Type 0} (test : X → Bool) (xs : List X) (x : X) → IsAmong xs x → test x ≡ true → IsAmong (filter test xs) x
passes test [] x h is = absurd h
passes {X} test (y ∷ xs) x h is =
    let Goal : Bool → Type 0 = λ b. test y ≡ b → IsAmong (if b then y ∷ filter test xs else filter test xs) x in
    let by_test : (b : Bool) → Goal b = λ b. elim b as Goal [
      | true ↦ λ at. elim h [
        | inl same ↦ inl same
        | inr more ↦ inr (passes test xs x more is)
      ]
      | false ↦ λ at. elim h [
        | inl same ↦
            let both : true ≡ false = sym is ∙ ap test (sym same) ∙ at in absurd (cc)
        | inr more ↦ passes test xs x more is
      ]
    ] in by_test (test y) refl

-- where none is left, none passes
none_passes : {X : Type 0} (test : X → Bool) (xs : List X) (x : X) → filter test xs ≡ [] → IsAmong xs x → test x ≡ false
none_passes {X} test xs x none h =
    let Goal : Bool → Type 0 = λ b. test x ≡ b → test x ≡ false in
    let by_test : (b : Bool) → Goal b = λ b. elim b as Goal [
      | true ↦ λ is. absurd (subst (λ (left : List X). IsAmong left x) none (passes test xs x h is))
      | false ↦ λ is. is
    ] in by_test (test x) refl

pub named : (ahead : List Request) (held : HoldingsView) (addr len : ℕ) (found : Option Naming) → AreTold (naming addr len held.entries) found →
    (state start : State) (taken : List (Step × ℕ)) → Keeps ahead held state start taken → AreNaming ahead held start (steps_of taken) addr len found
named ahead held addr len None none state start taken keeps = λ entry may.
    let f : IsFrom entry_of held.entries entry = from_among entry_of held.entries entry ((keeps.entries entry).1 may) in
    subst (λ (entry : Entry). names_memory addr len entry ≡ false) f.is
    (none_passes (λ (kept : Kept). names_memory addr len kept.entry) held.entries f.thing none f.among)
named ahead held addr len (Some found) told state start taken keeps =
    let test : Kept → Bool = λ kept. names_memory addr len kept.entry in
    let p : IsPassed test held.entries found.first = passed test held.entries found.first told.1.among in record {
      count = told.0;
      may = (keeps.entries found.first.entry).0 (among_of entry_of held.entries found.first p.among);
      names = p.passes;
      among = p.among;
      oldest = λ other among is. told.1.oldest other (passes test held.entries other among is);
    }
