-- A walk that has some levels still to come.
use Rattle.std.proofs.Common.{◌≡◌, ◌+◌, ◌-◌, ◌*◌, ◌<◌, ◌≤◌, ◌||◌, ℕ, zero, suc, Bool, true, false, not, List, [], ◌∷◌, Option, Some, refl, sym, ◌∙◌, ap, arith}
use Rattle.std.specs.List.{find, list_any}
use Rattle.iom_bits.specs.declared.causes.Kind.{Kind}
use Rattle.iom_bits.specs.declared.causes.Kind.TheVariants.{Read}
use Rattle.iom_walk.specs.declared.rules.EntryRules.{EntryRules}
use Rattle.iom_walk.specs.declared.entry.Ruling.{Ruling}
use Rattle.iom_walk.specs.declared.source.Got.{Got}
use Rattle.iom_walk.specs.declared.shape.Format.{Format}
use Rattle.iom_walk.specs.declared.entry.Verdict.TheVariants as verdict
use Rattle.iom_walk.specs.declared.outcome.Outcome.{Outcome}
use Rattle.iom_walk.specs.declared.outcome.Outcome.TheVariants as outcome
use Rattle.iom_walk.specs.Shape.{index_of}
use Rattle.iom_walk.specs.declared.entry.Verdict.{Verdict}
use Rattle.iom_walk.specs.Noted.{verdict_below}
use Rattle.iom_walk.specs.Verdict.{consequence, ruling_of, verdict_of, is_pointer, is_global, ppn, word_of}
use Rattle.iom_walk.specs.Path.{MetEntry, entry_at, verdict_on, next_table, path_from}
use Rattle.iom_walk.specs.Outcome.{conclude, conclude_at, verdict_on_path}
use Rattle.iom_walk.proofs.Entries.{found_any, pointer_for_each, pointer_word}

-- at the root nothing was global
pub whole : (rules : EntryRules) (kind : Kind) (address : ℕ) (path : List MetEntry) →
    verdict_below rules kind false address path ≡ verdict_on_path rules kind address path
unfolding verdict_below verdict_on_path
whole rules kind address path = refl

-- the entry that a walk meets with so many levels still to come, as it was read and judged
pub record IsMet (at : ℕ → Got) (format : Format) (address : ℕ) (kind : Kind) (table count place : ℕ) (got : Got) (ruling : Ruling) : Type 0 where
  pub some : 0 < count
  pub there : place ≡ table * 4096 + index_of format.shape address (count - 1) * 8
  pub read : got ≡ at place
  pub ruled : ruling ≡ ruling_of format.rules kind (count - 1) got

pub is_met : (at : ℕ → Got) (format : Format) (address : ℕ) (kind : Kind) (table count place : ℕ) (got : Got) (ruling : Ruling) →
    0 < count → place ≡ table * 4096 + index_of format.shape address (count - 1) * 8 → got ≡ at place →
    ruling ≡ ruling_of format.rules kind (count - 1) got → IsMet at format address kind table count place got ruling
is_met at format address kind table count place got ruling some there read ruled =
    record { some = some; there = there; read = read; ruled = ruled }

abbrev pub met : ℕ → ℕ → Got → MetEntry
met count place got = record { level = count - 1; place = place; got = got }

ends : (at : ℕ → Got) (format : Format) (address table level : ℕ) →
    is_pointer (verdict_on format.rules Read (entry_at at format address table level)) ≡ false →
    path_from at format address table (suc level) ≡ entry_at at format address table level ∷ []
unfolding path_from
ends at format address table level last = rw last refl

goes_on : (at : ℕ → Got) (format : Format) (address table level : ℕ) →
    is_pointer (verdict_on format.rules Read (entry_at at format address table level)) ≡ true →
    path_from at format address table (suc level)
    ≡ entry_at at format address table level ∷ path_from at format address (next_table (entry_at at format address table level)) level
unfolding path_from
goes_on at format address table level more = rw more refl

module _ (at : ℕ → Got) (format : Format) (address : ℕ) (kind : Kind) (table count place : ℕ) (got : Got) (ruling : Ruling)
    (is : IsMet at format address kind table count place got ruling) where
  here : entry_at at format address table (count - 1) ≡ met count place got
  here = rw (is.read, is.there) refl

  more : suc (count - 1) ≡ count
  more = omega (arith, is.some)

  pub says : consequence ruling (word_of got) ≡ verdict_on format.rules kind (met count place got)
  unfolding verdict_of
  says = ap (λ (r : Ruling). consequence r (word_of got)) is.ruled

  for_reads : is_pointer (verdict_on format.rules Read (entry_at at format address table (count - 1))) ≡ is_pointer (consequence ruling (word_of got))
  for_reads = ap (λ (e : MetEntry). is_pointer (verdict_on format.rules Read e)) here
      ∙ pointer_for_each format.rules kind (count - 1) got ∙ ap is_pointer (sym says)

  -- an entry that is no pointer is the last of a path
  pub is_last : is_pointer (consequence ruling (word_of got)) ≡ false → met count place got ∷ [] ≡ path_from at format address table count
  is_last last =
      ap (λ (e : MetEntry). e ∷ []) (sym here) ∙ sym (ends at format address table (count - 1) (for_reads ∙ last))
      ∙ ap (path_from at format address table) more

  -- behind a pointer the path goes on
  pub is_before : (word : ℕ) → verdict.Pointer word ≡ consequence ruling (word_of got) →
      met count place got ∷ path_from at format address (ppn word) (count - 1) ≡ path_from at format address table count
  is_before word points =
      let same : word ≡ word_of got = pointer_word format.rules kind (count - 1) word got (points ∙ says) in
      ap (λ n. met count place got ∷ path_from at format address (ppn n) (count - 1)) same
      ∙ ap (λ (e : MetEntry). e ∷ path_from at format address (next_table e) (count - 1)) (sym here)
      ∙ sym (goes_on at format address table (count - 1) (for_reads ∙ ap is_pointer (sym points)))
      ∙ ap (path_from at format address table) more

-- the verdict on a path whose first entry is no pointer, and on one that goes on behind a pointer
pub first_decides : (rules : EntryRules) (kind : Kind) (address : ℕ) (global : Bool) (entry : MetEntry) → is_pointer (verdict_on rules kind entry) ≡ false →
    conclude (global || is_global (word_of entry.got)) address entry (verdict_on rules kind entry) ≡ verdict_below rules kind global address (entry ∷ [])
unfolding verdict_below
first_decides rules kind address global entry last = rw last (grind arith)

pub pointer_passes : (rules : EntryRules) (kind : Kind) (address : ℕ) (global : Bool) (entry : MetEntry) (rest : List MetEntry) →
    is_pointer (verdict_on rules kind entry) ≡ true →
    verdict_below rules kind (global || is_global (word_of entry.got)) address rest ≡ verdict_below rules kind global address (entry ∷ rest)
unfolding verdict_below
pointer_passes rules kind address global entry rest points = rw points (grind arith)

-- the first entry of a path that is no pointer gives its end
pub decides : (rules : EntryRules) (kind : Kind) (address : ℕ) (path : List MetEntry) (entry : MetEntry) (ruling : Ruling) (global : Bool) (result : Outcome) →
    find (λ entry. not (is_pointer (verdict_on rules kind entry))) path ≡ Some entry → ruling ≡ ruling_of rules kind entry.level entry.got →
    global ≡ list_any (λ entry. is_global (word_of entry.got)) path →
    result ≡ conclude (global || is_global (word_of entry.got)) address entry (consequence ruling (word_of entry.got)) →
    result ≡ verdict_on_path rules kind address path
unfolding verdict_on_path verdict_of
decides rules kind address path entry ruling global result first ruled any ended =
    let Ends : Bool → Outcome = λ b. conclude b address entry (verdict_on rules kind entry) in
    ended ∙ ap (λ (r : Ruling). conclude (global || is_global (word_of entry.got)) address entry (consequence r (word_of entry.got))) ruled
    ∙ ap (λ (b : Bool). Ends (b || is_global (word_of entry.got))) any
    ∙ ap Ends (found_any (λ entry. not (is_pointer (verdict_on rules kind entry))) (λ entry. is_global (word_of entry.got)) path entry first)
    ∙ ap (λ (found : Option MetEntry). conclude_at rules kind (list_any (λ entry. is_global (word_of entry.got)) path) address found) (sym first)

-- after the last level nothing is left
pub runs_out : (at : ℕ → Got) (format : Format) (address : ℕ) (kind : Kind) (table count : ℕ) (global : Bool) (whole : Outcome) →
    verdict_below format.rules kind global address (path_from at format address table count) ≡ whole → count ≤ 0 → outcome.Fault ≡ whole
unfolding verdict_below path_from
runs_out at format address kind table zero global whole left none = left
runs_out at format address kind table (suc count) global whole left none = absurd (omega arith)

-- a turn that returns
pub stops : (at : ℕ → Got) (format : Format) (address : ℕ) (kind : Kind) (table count place : ℕ) (global : Bool)
    (got : Got) (ruling : Ruling) (result whole : Outcome) →
    verdict_below format.rules kind global address (path_from at format address table count) ≡ whole →
    IsMet at format address kind table count place got ruling → is_pointer (consequence ruling (word_of got)) ≡ false →
    result ≡ conclude (global || is_global (word_of got)) address (met count place got) (consequence ruling (word_of got)) → result ≡ whole
stops at format address kind table count place global got ruling result whole left is last ended =
    let judged : consequence ruling (word_of got) ≡ verdict_on format.rules kind (met count place got) = says at format address kind table count place got ruling is in
    ended ∙ ap (λ (v : Verdict). conclude (global || is_global (word_of got)) address (met count place got) v) judged
    ∙ first_decides format.rules kind address global (met count place got) (ap is_pointer (sym judged) ∙ last)
    ∙ ap (verdict_below format.rules kind global address) (is_last at format address kind table count place got ruling is last) ∙ left

-- a turn that goes on
pub turns : (at : ℕ → Got) (format : Format) (address : ℕ) (kind : Kind) (table count place : ℕ) (global : Bool)
    (got : Got) (ruling : Ruling) (word next : ℕ) (flag : Bool) (whole : Outcome) →
    verdict_below format.rules kind global address (path_from at format address table count) ≡ whole →
    IsMet at format address kind table count place got ruling → verdict.Pointer word ≡ consequence ruling (word_of got) →
    flag ≡ is_global word → next ≡ ppn word →
    verdict_below format.rules kind (global || flag) address (path_from at format address next (count - 1)) ≡ whole
turns at format address kind table count place global got ruling word next flag whole left is points flagged pointed =
    let judged : verdict.Pointer word ≡ verdict_on format.rules kind (met count place got) = points ∙ says at format address kind table count place got ruling is in
    let same : word ≡ word_of got = pointer_word format.rules kind (count - 1) word got judged in
    let rest : List MetEntry = path_from at format address (ppn word) (count - 1) in
    ap (λ n. verdict_below format.rules kind (global || flag) address (path_from at format address n (count - 1))) pointed
    ∙ ap (λ (b : Bool). verdict_below format.rules kind (global || b) address rest) (flagged ∙ ap is_global same)
    ∙ pointer_passes format.rules kind address global (met count place got) rest (ap is_pointer (sym judged))
    ∙ ap (verdict_below format.rules kind global address) (is_before at format address kind table count place got ruling is word points) ∙ left
