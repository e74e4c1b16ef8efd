-- What a run keeps true between two reads.
use Rattle.std.proofs.Common.{◌≡◌, ◌+◌, ◌<◌, ◌≤◌, ◌++◌, ℕ, Bool, List, [], ◌∷◌, length, true, false, OnOk, Option, Result, Ok, Err, ◌⊎◌, sym, ◌∙◌, ap, subst, refl, inl, inr, arith, append_assoc, append-nil, length-append}
use Rattle.std.specs.Io.KnownBytes.{Consumes, IsAtEnd, Keeps}
use Rattle.std.proofs.KnownBytes.{Consumes-nil, Consumes-trans, Consumes-kept}
use Rattle.std.proofs.lemmas.List.{nil_from_length}
use Rattle.iom_reader.proofs.Feeding.{begins}
use Rattle.iom_reader.specs.Lines.{ended_lines, lines_of}
use Rattle.iom_reader.specs.Answering.{Progress, progress, Answering, IsAnswering}
use Rattle.iom_reader.specs.Running.{Fed, AfterPiece, AfterEnd, StopsReading, StopsWriting, Ends, is_read, stops_at_a_read}
use Rattle.iom_reader.specs.declared.fault.RunFault.{RunFault}
use Rattle.iom_reader.specs.declared.fault.RunFault.TheVariants as fault

-- after `turns` reads, each of some bytes
pub record IsRunning (how : Answering) (unread left : Option (List ℕ)) (start now : Progress how.State) (kept : List ℕ) (lines bytes turns : ℕ) : Type 0 where
  pub text : List ℕ
  pub took : Consumes unread left text
  pub fed : Fed how start now kept lines bytes text
  pub turns_are : turns ≤ bytes

-- before the first read
pub run_begins : (how : Answering) → IsAnswering how → (unread : Option (List ℕ)) (start : Progress how.State) (kept : List ℕ) (lines bytes : ℕ) →
    kept ≡ [] → lines ≡ 0 → bytes ≡ 0 → IsRunning how unread unread start start kept lines bytes 0
run_begins how law unread start kept lines bytes none no_line no_byte = record {
  text = [];
  took = Consumes-nil unread;
  fed = rw (none, no_line, no_byte) (begins how law start);
  turns_are = omega arith;
}

read_more : (unread left less : Option (List ℕ)) (text piece : List ℕ) → Consumes unread left text → Consumes left less piece →
    Consumes unread less (text ++ piece)
read_more unread left less text piece = Consumes-trans unread left less text piece

read_none : (unread left less : Option (List ℕ)) (text piece : List ℕ) → Consumes unread left text → Consumes left less piece →
    length piece ≡ 0 → Consumes unread less text
read_none unread left less text piece took more none =
    let empty : piece ≡ [] = nil_from_length piece none in
    subst (Consumes unread less) (ap (λ l. text ++ l) empty ∙ append-nil text) (read_more unread left less text piece took more)

-- a flush keeps what was answered
pub runs_flushed : (how : Answering) → IsAnswering how → (unread left : Option (List ℕ)) (start now : Progress how.State) (written : Option (List ℕ)) (kept : List ℕ) (lines bytes turns : ℕ) →
    IsRunning how unread left start now kept lines bytes turns → Keeps now.written written →
    IsRunning how unread left start (progress written now.console) kept lines bytes turns
runs_flushed how law unread left start now written kept lines bytes turns h same = record {
  text = h.text;
  took = h.took;
  fed = record {
    answered = law.flushed start now written (ended_lines h.text) h.fed.answered same;
    keeps = h.fed.keeps;
    counts_lines = h.fed.counts_lines;
    counts_bytes = h.fed.counts_bytes;
    within = h.fed.within;
  };
  turns_are = h.turns_are;
}

pub flush_stops : (how : Answering) (unread left : Option (List ℕ)) (start now : Progress how.State) (kept : List ℕ) (lines bytes turns : ℕ) →
    IsRunning how unread left start now kept lines bytes turns → StopsWriting how unread left start now
flush_stops how unread left start now kept lines bytes turns h = record {
  text = h.text;
  lost = [];
  took = subst (Consumes unread left) (sym (append-nil h.text)) h.took;
  within = h.fed.within;
  lines = ended_lines h.text;
  read = inl refl;
  answered = inr (refl, h.fed.answered);
}

-- nothing is lost at the end
end_loses : (how : Answering) (start now : Progress how.State) (lines : List (List ℕ)) (lost : List ℕ) → lost ≡ [] → how.half start now lines ⊎ how.whole start now lines →
    how.half start now lines ⊎ ((lost ≡ []) × how.whole start now lines)
end_loses how start now lines lost none (inl half) = inl half
end_loses how start now lines lost none (inr all) = inr (none, all)

pub run_stops : (how : Answering) (unread left less : Option (List ℕ)) (start now : Progress how.State) (kept : List ℕ) (lines bytes turns : ℕ) →
    IsRunning how unread left start now kept lines bytes turns → Keeps left less → StopsReading how unread less start now
run_stops how unread left less start now kept lines bytes turns h same = record {
  text = h.text;
  took = Consumes-kept unread left less h.text h.took same;
  within = h.fed.within;
  answered = h.fed.answered;
}

pub run_ends : (how : Answering) (unread left less : Option (List ℕ)) (start now new : Progress how.State) (kept piece : List ℕ) (lines bytes turns : ℕ)
    (result : Result (Unit {0}) RunFault) → (h : IsRunning how unread left start now kept lines bytes turns) →
    Consumes left less piece → length piece ≡ 0 → IsAtEnd less → AfterEnd how start new h.text result → Ends how unread less start new result
run_ends how unread left less start now new kept piece lines bytes turns (Ok done) h more none all ends = record {
  text = h.text;
  took = read_none unread left less h.text piece h.took more none;
  all = all;
  within = h.fed.within;
  answered = ends;
}
run_ends how unread left less start now new kept piece lines bytes turns (Err fault.Read) h more none all ends = absurd ends
run_ends how unread left less start now new kept piece lines bytes turns (Err fault.Write) h more none all ends = record {
  text = h.text;
  lost = [];
  took = subst (Consumes unread less) (sym (append-nil h.text)) (read_none unread left less h.text piece h.took more none);
  within = h.fed.within;
  lines = lines_of h.text;
  read = inr (all, refl, refl);
  answered = end_loses how start new (lines_of h.text) [] refl ends;
}
run_ends how unread left less start now new kept piece lines bytes turns (Err fault.TooLong) h more none all ends = absurd ends

pub piece_ends : (how : Answering) (unread left less : Option (List ℕ)) (start now new : Progress how.State) (kept kept' piece : List ℕ) (lines bytes lines' bytes' turns : ℕ)
    (f : RunFault) → (h : IsRunning how unread left start now kept lines bytes turns) → Consumes left less piece →
    AfterPiece how start new kept' lines' bytes' h.text piece (Err f) → Ends how unread less start new (Err f)
piece_ends how unread left less start now new kept kept' piece lines bytes lines' bytes' turns fault.Read h more ends = absurd ends
piece_ends how unread left less start now new kept kept' piece lines bytes lines' bytes' turns fault.Write h more ends =
    let split : h.text ++ piece ≡ (h.text ++ ends.taken) ++ ends.left =
    ap (λ l. h.text ++ l) ends.split ∙ sym (append_assoc h.text ends.taken ends.left) in
    record {
      text = h.text ++ ends.taken;
      lost = ends.left;
      took = subst (Consumes unread less) split (read_more unread left less h.text piece h.took more);
      within = ends.within;
      lines = ended_lines (h.text ++ ends.taken);
      read = inl refl;
      answered = inl ends.answered;
    }
piece_ends how unread left less start now new kept kept' piece lines bytes lines' bytes' turns fault.TooLong h more ends =
    let split : h.text ++ piece ≡ (h.text ++ ends.taken) ++ ends.byte ∷ ends.left =
    ap (λ l. h.text ++ l) ends.split ∙ sym (append_assoc h.text ends.taken (ends.byte ∷ ends.left)) in
    record {
      text = h.text ++ ends.taken;
      byte = ends.byte;
      lost = ends.left;
      took = subst (Consumes unread less) split (read_more unread left less h.text piece h.took more);
      within = ends.within;
      limit = ends.limit;
      answered = ends.answered;
    }

pub runs_on : (how : Answering) (unread left less : Option (List ℕ)) (start now new : Progress how.State) (kept kept' piece : List ℕ) (lines bytes lines' bytes' turns : ℕ) →
    (h : IsRunning how unread left start now kept lines bytes turns) → Consumes left less piece → 0 < length piece →
    Fed how start new kept' lines' bytes' (h.text ++ piece) → IsRunning how unread less start new kept' lines' bytes' (turns + 1)
runs_on how unread left less start now new kept kept' piece lines bytes lines' bytes' turns h more some fed = record {
  text = h.text ++ piece;
  took = read_more unread left less h.text piece h.took more;
  fed = fed;
  turns_are = omega (arith, h.turns_are, h.fed.counts_bytes, fed.counts_bytes, length-append h.text piece, some);
}

-- neither a piece nor the end is a failed read
pub end_is_no_read : (how : Answering) (start now : Progress how.State) (text : List ℕ) (result : Result (Unit {0}) RunFault) → AfterEnd how start now text result →
    false ≡ is_read result
end_is_no_read how start now text (Ok done) ends = refl
end_is_no_read how start now text (Err fault.Read) ends = absurd ends
end_is_no_read how start now text (Err fault.Write) ends = refl
end_is_no_read how start now text (Err fault.TooLong) ends = refl

pub piece_is_no_read : (how : Answering) (start now : Progress how.State) (kept : List ℕ) (lines bytes : ℕ) (text piece : List ℕ) (f : RunFault) →
    AfterPiece how start now kept lines bytes text piece (Err f) → false ≡ is_read {A = Unit {0}} (Err f)
piece_is_no_read how start now kept lines bytes text piece fault.Read ends = absurd ends
piece_is_no_read how start now kept lines bytes text piece fault.Write ends = refl
piece_is_no_read how start now kept lines bytes text piece fault.TooLong ends = refl

-- after the end all is flushed, and no piece ends in a failed read
pub end_flushed : (how : Answering) (start now : Progress how.State) (text : List ℕ) (flushed : Bool) (result : Result (Unit {0}) RunFault) → AfterEnd how start now text result →
    OnOk result (flushed ≡ true) → stops_at_a_read result ≡ true → flushed ≡ true
end_flushed how start now text flushed (Ok done) ends is stops = is
end_flushed how start now text flushed (Err fault.Read) ends is stops = absurd ends
end_flushed how start now text flushed (Err fault.Write) ends is stops = absurd (cc stops)
end_flushed how start now text flushed (Err fault.TooLong) ends is stops = absurd ends

pub piece_stops_elsewhere : (how : Answering) (start now : Progress how.State) (kept : List ℕ) (lines bytes : ℕ) (text piece : List ℕ) (f : RunFault) (A : Type 0) →
    AfterPiece how start now kept lines bytes text piece (Err f) → stops_at_a_read {A = Unit {0}} (Err f) ≡ true → A
piece_stops_elsewhere how start now kept lines bytes text piece fault.Read A ends stops = absurd ends
piece_stops_elsewhere how start now kept lines bytes text piece fault.Write A ends stops = absurd (cc stops)
piece_stops_elsewhere how start now kept lines bytes text piece fault.TooLong A ends stops = absurd (cc stops)
