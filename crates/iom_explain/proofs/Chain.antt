-- Steps that are told one after the other, seen by those that are left.
use Rattle.std.proofs.Common.{◌≡◌, ◌+◌, ◌++◌, ℕ, List, [], ◌∷◌, Option, true, false, refl, sym, subst, append-nil, append_assoc}
use Rattle.std.specs.Io.KnownBytes.{Appends}
use Rattle.std.proofs.KnownBytes.{Appends-nil, Appends-trans}
use Rattle.iom_core.specs.State.{State}
use Rattle.iom_core.specs.Table.{next}
use Rattle.iom_core.specs.declared.step.Step.{Step}
use Rattle.iom_debug.specs.Taking.{is_done, taken}
use Rattle.iom_debug.proofs.Remaining.{Left, Stopped, begins as left_begins, goes_on as left_goes_on, stops as left_stops}
use Rattle.iom_explain.specs.Explaining.{Explained, StepTold, StepsTold}

-- some steps of one number from a start, after `count` of them that were done and told: `rest` is left here
pub record Along (held holds : Option (List ℕ)) (start : Explained) (number : ℕ) (all : List Step) (here : Explained) (rest : List Step)
    (count : ℕ) : Type 0 where
  pub left : Left start.desk number all here.desk rest count
  pub said : List ℕ
  pub wrote : Appends held holds said
  pub told : (text : List ℕ) (later : Explained) → StepsTold here number (taken here.desk.state rest) text later
      → StepsTold start number (taken start.desk.state all) (said ++ text) later

pub begins : (held : Option (List ℕ)) (start : Explained) (number : ℕ) (all : List Step) → Along held held start number all start all 0
begins held start number all = record {
  left = left_begins start.desk number all;
  said = [];
  wrote = Appends-nil held;
  told = λ text later h. h;
}

-- where the next step isn't done
pub record Ended (held holds : Option (List ℕ)) (start : Explained) (number : ℕ) (all : List Step) (here : Explained) (step : Step)
    (count : ℕ) (after : Explained) : Type 0 where
  pub stopped : Stopped start.desk number all here.desk step count after.desk
  pub said : List ℕ
  pub wrote : Appends held holds said
  pub told : StepsTold start number (taken start.desk.state all) said after

module _ (held holds later : Option (List ℕ)) (start : Explained) (number : ℕ) (all : List Step) (here : Explained) (step : Step) (rest : List Step)
    (count : ℕ) (after : Explained) (along : Along held holds start number all here (step ∷ rest) count) (said : List ℕ)
    (wrote : Appends holds later said) (told : StepTold here number step said after) where
  pub goes_on : is_done (next here.desk.state step).answer ≡ true → Along held later start number all after rest (count + 1)
  goes_on done =
      let there = (next here.desk.state step).state in
      let is : taken here.desk.state (step ∷ rest) ≡ step ∷ taken there rest = rw done refl in
      record {
        left = left_goes_on start.desk number all here.desk step rest count after.desk along.left told.took done;
        said = along.said ++ said;
        wrote = Appends-trans _ _ _ _ _ along.wrote wrote;
        told = λ text last more.
            let next_told : StepsTold after number (taken there rest) text last =
            subst (λ (s : State). StepsTold after number (taken s rest) text last) told.took.state more in
            let whole : StepsTold here number (step ∷ taken there rest) (said ++ text) last =
            (said, text, after, refl, told, next_told) in
            subst (λ t. StepsTold start number (taken start.desk.state all) t last) (sym (append_assoc along.said said text))
            (along.told (said ++ text) last
            (subst (λ (steps : List Step). StepsTold here number steps (said ++ text) last) (sym is) whole));
      }

  pub stops : is_done (next here.desk.state step).answer ≡ false → Ended held later start number all here step count after
  stops other =
      let is : taken here.desk.state (step ∷ rest) ≡ step ∷ [] = rw other refl in
      let whole : StepsTold here number (step ∷ []) (said ++ []) after = (said, [], after, refl, told, (refl, refl)) in
      record {
        stopped = left_stops start.desk number all here.desk step rest count after.desk along.left told.took other;
        said = along.said ++ (said ++ []);
        wrote = Appends-trans _ _ _ _ _ along.wrote (subst (Appends holds later) (sym (append-nil said)) wrote);
        told = along.told (said ++ []) after
            (subst (λ (steps : List Step). StepsTold here number steps (said ++ []) after) (sym is) whole);
      }

-- where none is left
pub ends : (held holds : Option (List ℕ)) (start : Explained) (number : ℕ) (all : List Step) (here : Explained) (count : ℕ) →
    (along : Along held holds start number all here [] count) → StepsTold start number (taken start.desk.state all) along.said here
ends held holds start number all here count along =
    subst (λ t. StepsTold start number (taken start.desk.state all) t here) (append-nil along.said) (along.told [] here (refl, refl))
