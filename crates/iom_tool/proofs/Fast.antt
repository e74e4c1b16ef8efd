-- The steps that are read the fast way are those of the table.
use Rattle.std.proofs.Common.{◌≡◌, ◌≤◌, ◌==◌, ℕ, List, [], ◌∷◌, Some, true, false, codes, length, nat_lt, subst, sym, refl, arith}
use Rattle.std.specs.List.{list_any}
use Rattle.iom_text.specs.Words.{words_of}
use Rattle.std.specs.Prelude.{bytes_eq}
use Rattle.std.proofs.lemmas.Slice.Eq.{bytes_eq-Decides}
use Rattle.iom_regs.specs.declared.busy.Busy.TheVariants as busy
use Rattle.iom_core.specs.declared.step.Step.{Step}
use Rattle.iom_core.specs.declared.step.Step.TheVariants as step
use Rattle.iom_tool.specs.Script.{Data, Does, Number, Plain, all_say, first_of, line_by, line_in, meaning, rows, step_by}
use Rattle.iom_tool.specs.Parsed.{IsStep}
use Rattle.iom_tool.specs.Values.{nothing, numbers_only}
use Rattle.iom_tool.specs.declared.language.Language.{Language}

same_word : (word name : List ℕ) → bytes_eq word name ≡ true → word ≡ name
same_word word name is = (bytes_eq-Decides word name).0 is

pub first : (verb name : List ℕ) (words : List (List ℕ)) (step : Step) → bytes_eq verb name ≡ true → IsStep (name ∷ words) step →
    IsStep (verb ∷ words) step
first verb name words step is told = subst (λ v. IsStep (v ∷ words) step) (sym (same_word verb name is)) told

pub second : (verb way name : List ℕ) (words rest : List (List ℕ)) (step : Step) → words ≡ way ∷ rest → bytes_eq way name ≡ true →
    IsStep (verb ∷ name ∷ rest) step → IsStep (verb ∷ words) step
second verb way name words rest step cut is told =
    subst (λ ws. IsStep (verb ∷ ws) step) (sym cut) (subst (λ w. IsStep (verb ∷ w ∷ rest) step) (sym (same_word way name is)) told)

pub load : (words : List (List ℕ)) (a b : ℕ) → all_say (Number ∷ Number ∷ []) words nothing ≡ Some (numbers_only (a ∷ b ∷ [])) →
    IsStep (codes "load" ∷ words) (step.Load a b)
unfolding IsStep meaning first_of rows all_say line_by step_by
load words a b is = λ language. rw is refl

pub store : (words : List (List ℕ)) (a b c : ℕ) → all_say (Number ∷ Number ∷ Number ∷ []) words nothing ≡ Some (numbers_only (a ∷ b ∷ c ∷ [])) →
    IsStep (codes "store" ∷ words) (step.Store a b c)
unfolding IsStep meaning first_of rows all_say line_by step_by
store words a b c is = λ language. rw is refl

pub reg_read : (words : List (List ℕ)) (a b : ℕ) → all_say (Number ∷ Number ∷ []) words nothing ≡ Some (numbers_only (a ∷ b ∷ [])) →
    IsStep (codes "reg" ∷ codes "read" ∷ words) (step.RegRead a b)
unfolding IsStep meaning first_of rows all_say line_by step_by
reg_read words a b is = λ language. rw is refl

pub reg_write : (words : List (List ℕ)) (a b c : ℕ) → all_say (Number ∷ Number ∷ Number ∷ []) words nothing ≡ Some (numbers_only (a ∷ b ∷ c ∷ [])) →
    IsStep (codes "reg" ∷ codes "write" ∷ words) (step.RegWrite a b c)
unfolding IsStep meaning first_of rows all_say line_by step_by
reg_write words a b c is = λ language. rw is refl

pub dma_read : (words : List (List ℕ)) (a b c : ℕ) → all_say (Number ∷ Number ∷ Number ∷ []) words nothing ≡ Some (numbers_only (a ∷ b ∷ c ∷ [])) →
    IsStep (codes "dma" ∷ codes "read" ∷ words) (step.DmaRead a b c)
unfolding IsStep meaning first_of rows all_say line_by step_by
dma_read words a b c is = λ language. rw is refl

pub dev_read : (words : List (List ℕ)) (a b c : ℕ) → all_say (Number ∷ Number ∷ Number ∷ []) words nothing ≡ Some (numbers_only (a ∷ b ∷ c ∷ [])) →
    IsStep (codes "dev" ∷ codes "read" ∷ words) (step.DevRead a b c)
unfolding IsStep meaning first_of rows all_say line_by step_by
dev_read words a b c is = λ language. rw is refl

pub dev_write : (words : List (List ℕ)) (a b c d : ℕ) → all_say (Number ∷ Number ∷ Number ∷ Number ∷ []) words nothing ≡ Some (numbers_only (a ∷ b ∷ c ∷ d ∷ [])) →
    IsStep (codes "dev" ∷ codes "write" ∷ words) (step.DevWrite a b c d)
unfolding IsStep meaning first_of rows all_say line_by step_by
dev_write words a b c d is = λ language. rw is refl

pub dev_step : (words : List (List ℕ)) (a : ℕ) → all_say (Number ∷ []) words nothing ≡ Some (numbers_only (a ∷ [])) →
    IsStep (codes "dev" ∷ codes "step" ∷ words) (step.Device a)
unfolding IsStep meaning first_of rows all_say line_by step_by
dev_step words a is = λ language. rw is refl

pub dma_write : (words : List (List ℕ)) (a b : ℕ) (bytes : List ℕ) →
    all_say (Number ∷ Number ∷ Data ∷ []) words nothing ≡ Some (record { numbers = a ∷ b ∷ []; bytes = bytes; items = [] }) →
    IsStep (codes "dma" ∷ codes "write" ∷ words) (step.DmaWrite a b (record { items = bytes }))
unfolding IsStep meaning first_of rows all_say line_by step_by
dma_write words a b bytes is = λ language. rw is refl

pub cmd : (words : List (List ℕ)) → (length words == 0) ≡ true → IsStep (codes "cmd" ∷ words) step.Command
unfolding IsStep meaning first_of rows all_say line_by step_by
cmd words is = λ language. rw is refl

pub settle_ddtp : IsStep (codes "settle" ∷ codes "ddtp" ∷ []) (step.Settle busy.Directory)
unfolding IsStep meaning first_of rows all_say line_by step_by
settle_ddtp = λ language. refl

pub settle_cq : IsStep (codes "settle" ∷ codes "cq" ∷ []) (step.Settle busy.Commands)
unfolding IsStep meaning first_of rows all_say line_by step_by
settle_cq = λ language. refl

pub settle_fq : IsStep (codes "settle" ∷ codes "fq" ∷ []) (step.Settle busy.Faults)
unfolding IsStep meaning first_of rows all_say line_by step_by
settle_fq = λ language. refl

-- such a line says so in each script
pub fast : (text verb : List ℕ) (words : List (List ℕ)) (step : Step) (language : Language) → list_any (λ c. c == 10) text ≡ false →
    length text ≤ 512 → words_of text ≡ verb ∷ words → IsStep (verb ∷ words) step → line_in language text ≡ Plain (Does step)
unfolding line_in IsStep
fast text verb words step language cut short split told =
    let within : nat_lt 512 (length text) ≡ false = grind arith in
    rw (within, cut, split) (told language)
