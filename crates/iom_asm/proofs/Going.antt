-- Lines one after the other, as a loop takes them.
use Rattle.std.proofs.Common.{◌≡◌, ℕ, ◌+◌, List, [], ◌∷◌, Option, Some, None, Result, Ok, Err, refl, sym, ap, ◌∙◌}
use Rattle.std.specs.Prelude.{IfSome}
use Rattle.iom_text.specs.Words.{words_of}
use Rattle.iom_asm.specs.declared.asm_fault.AsmFault.{AsmFault}
use Rattle.iom_asm.specs.Assembly.{ImageDraftView, lines_of, then_so, after_words, after_lines, ended, described}
use Rattle.iom_asm.specs.declared.draft.ImageDraft as kept
use Rattle.iom_asm.specs.Drafts.{draft_seen, found_seen}
use Rattle.iom_asm.proofs.Keeping.{Good, Fine, words_good}

pub goes_on : (line : ℕ) (draft next : Option ImageDraftView) (rest first others : List ℕ) (all : Result (Option ImageDraftView) AsmFault) →
    lines_of rest ≡ first ∷ lines_of others → after_words line draft (words_of first) ≡ Ok next →
    after_lines line draft (lines_of rest) ≡ all → after_lines (line + 1) next (lines_of others) ≡ all
unfolding after_lines
goes_on line draft next rest first others all cut made so_far =
    let one : after_lines line draft (lines_of rest) ≡ after_lines (line + 1) next (lines_of others) = rw (cut, made) refl in
    sym one ∙ so_far

pub stops : (line : ℕ) (draft : Option ImageDraftView) (rest first others text : List ℕ) (fault : AsmFault) →
    lines_of rest ≡ first ∷ lines_of others → after_words line draft (words_of first) ≡ Err fault →
    after_lines line draft (lines_of rest) ≡ after_lines 1 None (lines_of text) → described text ≡ Err fault
unfolding after_lines described
stops line draft rest first others text fault cut made so_far =
    let one : after_lines line draft (lines_of rest) ≡ Err fault = rw (cut, made) refl in
    ap (λ made. then_so made ended) (sym so_far ∙ one)

pub all_done : (line : ℕ) (draft : Option ImageDraftView) (rest text : List ℕ) → rest ≡ [] →
    after_lines line draft (lines_of rest) ≡ after_lines 1 None (lines_of text) → described text ≡ ended draft
unfolding after_lines described lines_of
all_done line draft rest text none so_far =
    let one : after_lines line draft (lines_of rest) ≡ Ok draft = rw none refl in
    ap (λ made. then_so made ended) (sym so_far ∙ one)

-- what is seen of what is kept
pub seen_good : (draft : Option kept.ImageDraft) → Fine (found_seen draft) → IfSome draft (λ draft. Good (draft_seen draft))
seen_good None good = tt
seen_good (Some draft) good = good

pub good_seen : (draft : Option kept.ImageDraft) → IfSome draft (λ draft. Good (draft_seen draft)) → Fine (found_seen draft)
good_seen None good = tt
good_seen (Some draft) good = good

pub still_good : (line : ℕ) (draft next : Option kept.ImageDraft) (words : List (List ℕ)) → IfSome draft (λ draft. Good (draft_seen draft)) →
    after_words line (found_seen draft) words ≡ Ok (found_seen next) → IfSome next (λ next. Good (draft_seen next))
still_good line draft next words good made = seen_good next (rw made at (words_good line (found_seen draft) words (good_seen draft good)))
