-- Lines that are answered one by one.
use Rattle.std.proofs.Common.{◌≡◌, ◌++◌, ℕ, List, [], ◌∷◌, take, Result, Ok, Err, sym, ◌∙◌, ap, subst, refl, append_assoc, append-nil}
use Rattle.std.specs.Io.KnownBytes.{Appends}
use Rattle.std.proofs.KnownBytes.{Appends-nil, Appends-trans, Appends-kept}
use Rattle.iom_reader.specs.Answering.{Progress, progress, AnswersNext, IsAnswering}
use Rattle.iom_reader.specs.Speaking.{Speaking, Speaks, Spoken, HalfSpoken, by_lines}
use Rattle.iom_reader.specs.declared.fault.RunFault.{RunFault}
use Rattle.iom_reader.proofs.Lists.{last_split, take_513}

one_more : (how : Speaking) (a b c : how.State) (lines : List (List ℕ)) (line text said : List ℕ) → Speaks how a lines text b →
    how.says b (take 513 line) said c → Speaks how a (lines ++ line ∷ []) (text ++ said) c
one_more how a b c [] line text said h next =
    (said, [], c, ap (λ t. t ++ said) h.0 ∙ sym (append-nil said), subst (λ s. how.says s (take 513 line) said c) h.1 next, (refl, refl))
one_more how a b c (first ∷ lines) line text said h next =
    (h.0, h.1 ++ said, h.2, ap (λ t. t ++ said) h.3 ∙ append_assoc h.0 h.1 said, h.4, one_more how h.2 b c lines line h.1 said h.5 next)

-- what was said of a line's first 513 bytes was said of the line
whole_line : (how : Speaking) (a b : how.State) (lines : List (List ℕ)) (line text : List ℕ) → Speaks how a (lines ++ take 513 line ∷ []) text b →
    Speaks how a (lines ++ line ∷ []) text b
whole_line how a b [] line text h =
    (h.0, h.1, h.2, h.3, subst (λ l. how.says a l h.0 h.2) (take_513 line) h.4, h.5)
whole_line how a b (first ∷ lines) line text h =
    (h.0, h.1, h.2, h.3, h.4, whole_line how h.2 b lines line h.1 h.5)

-- a line is answered, or a write failed within it
pub spoken : (how : Speaking) (line text : List ℕ) (old new : Progress how.State) → how.says old.console (take 513 line) text new.console →
    Appends old.written new.written text → AnswersNext (by_lines how) line old new (Ok tt)
spoken how line text old new says wrote = λ start lines h. record {
  text = h.text ++ text;
  said = one_more how start.console old.console new.console lines line h.text text h.said says;
  written = Appends-trans _ _ _ _ _ h.written wrote;
}

pub broken : (how : Speaking) (line front : List ℕ) (f : RunFault) (old new : Progress how.State) → how.breaks old.console (take 513 line) front new.console →
    Appends old.written new.written front → AnswersNext (by_lines how) line old new (Err f)
broken how line front f old new breaks wrote = λ start lines h. record {
  whole = lines;
  last = line;
  split = refl;
  text = h.text;
  mid = old.console;
  said = h.said;
  front = front;
  broke = breaks;
  written = Appends-trans _ _ _ _ _ h.written wrote;
}

pub lawful : (how : Speaking) → IsAnswering (by_lines how)
lawful how = record {
  none = λ now. record { text = []; said = (refl, refl); written = Appends-nil now.written };
  flushed = λ start now written lines h kept. record { text = h.text; said = h.said; written = Appends-kept _ _ _ _ h.written kept };
  cut = λ start now lines line h. record {
    text = h.text;
    said = whole_line how start.console now.console lines line h.text h.said;
    written = h.written;
  };
  half_cut = λ start now lines line h.
      let parts = last_split lines h.whole (take 513 line) h.last h.split in
      record {
        whole = h.whole;
        last = line;
        split = ap (λ l. l ++ line ∷ []) parts.0;
        text = h.text;
        mid = h.mid;
        said = h.said;
        front = h.front;
        broke = subst (λ l. how.breaks h.mid l h.front now.console) (ap (take 513) (sym parts.1) ∙ take_513 line) h.broke;
        written = h.written;
      };
}
