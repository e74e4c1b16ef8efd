-- Why a line can't stand for the lines of a text.
use Rattle.std.proofs.Common.{◌≡◌, ◌+◌, ◌-◌, ◌==◌, ◌<◌, ◌≤◌, ◌++◌, ◌⊎◌, ℕ, zero, suc, List, [], ◌∷◌, Option, Some, None, Ok, Err, length, refl, sym, ap, subst, ◌∙◌, inl, inr, arith, append_assoc, append-nil, length-append}
use Rattle.std.specs.Prelude.{Result, IfErr, IfSome, string_bytes}
use Rattle.std.specs.List.{filter, flat_map}
use Rattle.std.proofs.lemmas.List.Elements.{filter-append}
use Rattle.std.specs.Result.{IsErrAnd}
use Rattle.iom_reader.specs.Lines.{ended_lines, lines_of}
use Rattle.iom_include.specs.Including.{comment_of, file_of, name_at, said}
use Rattle.iom_include.specs.Faults.{AppendsFront, IfRefused, IsAmong, IsFault, IsFaultOf, IsOver, IsReason, IsTooMuch, Lacking, Leads, Names, line_ends}
use Rattle.iom_include.proofs.Depths.{text_said}
use Rattle.iom_include.specs.declared.fault.TextFault.{TextFault}
use Rattle.iom_include.specs.declared.fault.Reason.{Reason}
use Rattle.iom_include.specs.declared.fault.Reason.TheVariants as reason
use Rattle.iom_include.specs.declared.fault.IncludeFault.{IncludeFault}
use Rattle.iom_include.specs.declared.fault.IncludeFault.TheVariants as fault

-- the lines of a text are the last ones of another
pub record IsEndOf (rest text : List ℕ) : Type 0 where
  pub before : List (List ℕ)
  pub split : ended_lines text ≡ before ++ ended_lines rest

pub end_whole : (text : List ℕ) → IsEndOf text text
end_whole text = record { before = []; split = refl }

pub end_less : (text rest first others : List ℕ) → IsEndOf rest text → ended_lines rest ≡ first ∷ ended_lines others → IsEndOf others text
end_less text rest first others end cut = record {
  before = end.before ++ first ∷ [];
  split = end.split ∙ ap (λ l. end.before ++ l) cut ∙ sym (append_assoc end.before (first ∷ []) (ended_lines others));
}

pub line_of_end : (text rest first others : List ℕ) → IsEndOf rest text → ended_lines rest ≡ first ∷ ended_lines others → IsAmong first (ended_lines text)
line_of_end text rest first others end cut = record {
  before = end.before;
  behind = ended_lines others;
  split = end.split ∙ ap (λ l. end.before ++ l) cut;
}

-- the fault that a `?` hands on
pub handed_on : {T E : Type 0} (P : E → Type 0) (result : Result T E) (it : E) → IsErrAnd result (λ e. e ≡ it) → P it → IfErr result P
handed_on P (Ok done) it is so = tt
handed_on P (Err e) it is so = subst P (sym is) so

-- a line leads to itself
here : (gives : List ℕ → List ℕ → Type 0) (depth : ℕ) (from line : List ℕ) → Leads gives depth from line depth from line
unfolding Leads
here gives zero from line = (refl, refl, refl)
here gives (suc depth) from line = inl (refl, refl, refl)

-- a fault of the line itself
pub refused_here : (gives : List ℕ → List ℕ → Type 0) (lacks : List ℕ → TextFault → Type 0) (depth : ℕ) (from line name : List ℕ)
    (over : Type 0) (why : Reason) (it : IncludeFault) → Names why name from it → IsReason lacks depth from line name over why →
    IsFaultOf gives lacks depth from line over it
refused_here gives lacks depth from line name over why (fault.Refused told shown to number) is so = rw (is.0, is.1, is.2) (record {
  left = depth;
  last = line;
  leads = here gives depth from line;
  reason = so;
})
refused_here gives lacks depth from line name over why fault.LongLine is so = is
refused_here gives lacks depth from line name over why fault.OutOfMemory is so = tt

-- there is no text
pub lacking_here : (gives : List ℕ → List ℕ → Type 0) (lacks : List ℕ → TextFault → Type 0) (depth : ℕ) (from line file : List ℕ)
    (over : Type 0) (it : IncludeFault) → Some file ≡ file_of line → Lacking lacks (name_at from file) from it →
    IsFaultOf gives lacks depth from line over it
lacking_here gives lacks depth from line file over (fault.Refused reason.Unreadable shown to number) is so =
    refused_here gives lacks depth from line (name_at from file) over reason.Unreadable (fault.Refused reason.Unreadable shown to number)
    (refl, so.1, so.2) (inr (record { file = file; includes = sym is; named = refl; why = so.0 }))
lacking_here gives lacks depth from line file over (fault.Refused reason.TooLong shown to number) is so =
    refused_here gives lacks depth from line (name_at from file) over reason.TooLong (fault.Refused reason.TooLong shown to number)
    (refl, so.1, so.2) (record { file = file; includes = sym is; named = refl; why = inl so.0 })
lacking_here gives lacks depth from line file over (fault.Refused reason.TooDeep shown to number) is so = absurd so
lacking_here gives lacks depth from line file over fault.LongLine is so = so
lacking_here gives lacks depth from line file over fault.OutOfMemory is so = tt

-- a line of the text that a line includes leads on
leads_below : (gives : List ℕ → List ℕ → Type 0) (depth left : ℕ) (from line file text next to last : List ℕ) → 0 < depth →
    Some file ≡ file_of line → gives (name_at from file) text → IsAmong next (lines_of text) →
    Leads gives (depth - 1) (name_at from file) next left to last → Leads gives depth from line left to last
unfolding Leads
leads_below gives zero left from line file text next to last deep is given among leads = absurd (omega arith)
leads_below gives (suc depth) left from line file text next to last deep is given among leads =
    let less : suc depth - 1 ≡ depth = omega arith in
    inr (record {
      file = file;
      includes = sym is;
      text = text;
      given = given;
      next = next;
      among = among;
      below = subst (λ n. Leads gives n (name_at from file) next left to last) less leads;
    })

pub refused_below : (gives : List ℕ → List ℕ → Type 0) (lacks : List ℕ → TextFault → Type 0) (depth : ℕ) (from line file text next : List ℕ)
    (over : Type 0) (it : IncludeFault) → 0 < depth → Some file ≡ file_of line → gives (name_at from file) text →
    IsAmong next (lines_of text) → IsFaultOf gives lacks (depth - 1) (name_at from file) next over it →
    IsFaultOf gives lacks depth from line over it
refused_below gives lacks depth from line file text next over (fault.Refused why name to number) deep is given among h = record {
  left = h.left;
  last = h.last;
  leads = leads_below gives depth h.left from line file text next (string_bytes to) h.last deep is given among h.leads;
  reason = h.reason;
}
refused_below gives lacks depth from line file text next over fault.LongLine deep is given among h = h
refused_below gives lacks depth from line file text next over fault.OutOfMemory deep is given among h = tt

-- a text of which a front stands
pub if_refused : (it : IncludeFault) (P Q : Type 0) → (P → Q) → IfRefused it P → IfRefused it Q
if_refused (fault.Refused why shown to number) P Q so holds = so holds
if_refused fault.LongLine P Q so holds = tt
if_refused fault.OutOfMemory P Q so holds = tt

refused_if : (it : IncludeFault) (P : Type 0) → P → IfRefused it P
refused_if (fault.Refused why shown to number) P holds = holds
refused_if fault.LongLine P holds = tt
refused_if fault.OutOfMemory P holds = tt

none_of_it : (known : Option (List ℕ → List ℕ)) (depth : ℕ) (from line out : List ℕ) →
    IfSome known (λ texts. AppendsFront out out (said texts depth from line))
none_of_it None depth from line out = tt
none_of_it (Some texts) depth from line out = (said texts depth from line, refl)

pub front_none : (known : Option (List ℕ → List ℕ)) (depth : ℕ) (from line out : List ℕ) (it : IncludeFault) →
    IfRefused it (IfSome known (λ texts. AppendsFront out out (said texts depth from line)))
front_none known depth from line out it = refused_if it _ (none_of_it known depth from line out)

-- what stands for a line that includes a text: the text's lines, and then the line's comment
abbrev ended_by : List ℕ → List ℕ → List ℕ
ended_by lines line = lines ++ (comment_of line ++ 10 ∷ [])

abbrev lines_below : (List ℕ → List ℕ) → ℕ → List ℕ → List ℕ → List ℕ
lines_below texts depth last text = flat_map (said texts (depth - 1) last) (ended_lines text)

pub whole_text : (known : Option (List ℕ → List ℕ)) (depth : ℕ) (from line file first last items text : List ℕ) → 0 < depth →
    Some file ≡ file_of line → first ≡ name_at from file → last ≡ name_at from file → text ≡ items →
    IfSome known (λ texts. ended_lines items ≡ lines_of (texts first)) →
    IfSome known (λ texts. said texts depth from line ≡ ended_by (lines_below texts depth last text) line)
whole_text None depth from line file first last items text deep is one two same given = tt
whole_text (Some texts) depth from line file first last items text deep is one two same given =
    let given_at : ended_lines text ≡ lines_of (texts (name_at from file)) =
    ap ended_lines same ∙ subst (λ n. ended_lines items ≡ lines_of (texts n)) one given in
    text_said texts depth from line file is deep
    ∙ ap (λ l. ended_by l line) (sym (ap (λ l. flat_map (said texts (depth - 1) last) l) given_at
    ∙ ap (λ n. flat_map (said texts (depth - 1) n) (lines_of (texts (name_at from file)))) two))

front_by : (known : Option (List ℕ → List ℕ)) (whole part : (List ℕ → List ℕ) → List ℕ) (more old new : List ℕ) →
    IfSome known (λ texts. whole texts ≡ part texts ++ more) → IfSome known (λ texts. AppendsFront old new (part texts)) →
    IfSome known (λ texts. AppendsFront old new (whole texts))
front_by None whole part more old new same front = tt
front_by (Some texts) whole part more old new same front = (
  front.0 ++ more,
  sym (append_assoc new front.0 more) ∙ ap (λ l. l ++ more) front.1 ∙ append_assoc old (part texts) more ∙ ap (λ l. old ++ l) (sym same),
)

all_of_it : (known : Option (List ℕ → List ℕ)) (whole part : (List ℕ → List ℕ) → List ℕ) (more old mid new : List ℕ) →
    IfSome known (λ texts. whole texts ≡ part texts ++ more) → IfSome known (λ texts. mid ≡ old ++ part texts) → new ≡ mid ++ more →
    IfSome known (λ texts. AppendsFront old new (whole texts))
all_of_it None whole part more old mid new same done grown = tt
all_of_it (Some texts) whole part more old mid new same done grown = (
  [],
  append-nil new ∙ grown ∙ ap (λ l. l ++ more) done ∙ append_assoc old (part texts) more ∙ ap (λ l. old ++ l) (sym same),
)

pub front_text : (known : Option (List ℕ → List ℕ)) (depth : ℕ) (from line last text old new : List ℕ) (it : IncludeFault) →
    IfSome known (λ texts. said texts depth from line ≡ ended_by (lines_below texts depth last text) line) →
    IfRefused it (IfSome known (λ texts. AppendsFront old new (lines_below texts depth last text))) →
    IfRefused it (IfSome known (λ texts. AppendsFront old new (said texts depth from line)))
front_text known depth from line last text old new it same front =
    if_refused it _ _ (front_by known (λ texts. said texts depth from line) (λ texts. lines_below texts depth last text) (comment_of line ++ 10 ∷ [])
    old new same) front

pub front_whole : (known : Option (List ℕ → List ℕ)) (depth : ℕ) (from line last text comment old mid new : List ℕ) (it : IncludeFault) →
    comment ≡ comment_of line → IfSome known (λ texts. said texts depth from line ≡ ended_by (lines_below texts depth last text) line) →
    IfSome known (λ texts. mid ≡ old ++ lines_below texts depth last text) → new ≡ mid ++ (comment ++ 10 ∷ []) →
    IfRefused it (IfSome known (λ texts. AppendsFront old new (said texts depth from line)))
front_whole known depth from line last text comment old mid new it own same done grown =
    refused_if it _ (all_of_it known (λ texts. said texts depth from line) (λ texts. lines_below texts depth last text) (comment_of line ++ 10 ∷ [])
    old mid new same done (grown ∙ ap (λ l. mid ++ (l ++ 10 ∷ [])) own))

more_of_it : (known : Option (List ℕ → List ℕ)) (depth : ℕ) (name old out new first : List ℕ) (all lines rest : List (List ℕ)) →
    IfSome known (λ texts. out ++ flat_map (said texts depth name) lines ≡ old ++ flat_map (said texts depth name) all) →
    lines ≡ first ∷ rest → IfSome known (λ texts. AppendsFront out new (said texts depth name first)) →
    IfSome known (λ texts. AppendsFront old new (flat_map (said texts depth name) all))
more_of_it None depth name old out new first all lines rest so_far cut front = tt
more_of_it (Some texts) depth name old out new first all lines rest so_far cut front = (
  front.0 ++ flat_map (said texts depth name) rest,
  sym (append_assoc new front.0 (flat_map (said texts depth name) rest)) ∙ ap (λ l. l ++ flat_map (said texts depth name) rest) front.1
      ∙ append_assoc out (said texts depth name first) (flat_map (said texts depth name) rest)
      ∙ ap (λ l. out ++ flat_map (said texts depth name) l) (sym cut) ∙ so_far,
)

pub front_more : (known : Option (List ℕ → List ℕ)) (depth : ℕ) (name old out new first : List ℕ) (all lines rest : List (List ℕ)) (it : IncludeFault) →
    IfSome known (λ texts. out ++ flat_map (said texts depth name) lines ≡ old ++ flat_map (said texts depth name) all) →
    lines ≡ first ∷ rest → IfRefused it (IfSome known (λ texts. AppendsFront out new (said texts depth name first))) →
    IfRefused it (IfSome known (λ texts. AppendsFront old new (flat_map (said texts depth name) all)))
front_more known depth name old out new first all lines rest it so_far cut front =
    if_refused it _ _ (more_of_it known depth name old out new first all lines rest so_far cut) front

pub any_fault : {T E : Type 0} (P : E → Type 0) (result : Result T E) → ((e : E) → P e) → IfErr result P
any_fault P (Ok done) all = tt
any_fault P (Err e) all = all e

-- too much stands for the line
ends_of_both : (some more : List ℕ) → line_ends (some ++ more) ≡ line_ends some + line_ends more
ends_of_both some more =
    ap length (filter-append (λ c. c == 10) some more) ∙ length-append (filter (λ c. c == 10) some) (filter (λ c. c == 10) more)

over_all : (new rest all : List ℕ) (lines : ℕ) → new ++ rest ≡ all → lines ≤ line_ends new → IsOver (length new) lines → IsTooMuch all
over_all new rest all lines is counted (inl much) = inl (omega (arith, much, ap length is, length-append new rest))
over_all new rest all lines is counted (inr many) = inr (omega (arith, many, counted, ap line_ends is, ends_of_both new rest))

over_known : (known : Option (List ℕ → List ℕ)) (name line new : List ℕ) (lines : ℕ) →
    IfSome known (λ texts. AppendsFront [] new (said texts 8 name line)) → lines ≤ line_ends new → IsOver (length new) lines →
    IfSome known (λ texts. IsTooMuch (said texts 8 name line))
over_known None name line new lines front counted over = tt
over_known (Some texts) name line new lines front counted over = over_all new front.0 (said texts 8 name line) lines front.1 counted over

either_so : {A B C : Type 0} → A ⊎ B → (B → C) → A ⊎ C
either_so (inl a) so = inl a
either_so (inr b) so = inr (so b)

over_so : (lacks : List ℕ → TextFault → Type 0) (left : ℕ) (to last name : List ℕ) (over more : Type 0) (why : Reason) → (over → more) →
    IsReason lacks left to last name over why → IsReason lacks left to last name more why
over_so lacks left to last name over more reason.Unreadable so h = h
over_so lacks left to last name over more reason.TooDeep so h = h
over_so lacks left to last name over more reason.TooLong so h = record {
  file = h.file;
  includes = h.includes;
  named = h.named;
  why = either_so h.why so;
}

fault_by : (known : Option (List ℕ → List ℕ)) (gives : List ℕ → List ℕ → Type 0) (lacks : List ℕ → TextFault → Type 0)
    (name line new : List ℕ) (lines : ℕ) (it : IncludeFault) → IsFaultOf gives lacks 8 name line (IsOver (length new) lines) it →
    IfRefused it (IfSome known (λ texts. AppendsFront [] new (said texts 8 name line))) → lines ≤ line_ends new →
    IsFault known gives lacks name line it
fault_by known gives lacks name line new lines (fault.Refused why shown to number) h front counted = record {
  left = h.left;
  last = h.last;
  leads = h.leads;
  reason = over_so lacks h.left (string_bytes to) h.last (string_bytes shown) _ _ why (over_known known name line new lines front counted) h.reason;
}
fault_by known gives lacks name line new lines fault.LongLine h front counted = h
fault_by known gives lacks name line new lines fault.OutOfMemory h front counted = tt

-- of an expansion that began empty
pub whole_fault : (known : Option (List ℕ → List ℕ)) (gives : List ℕ → List ℕ → Type 0) (lacks : List ℕ → TextFault → Type 0)
    (name line old new : List ℕ) (lines : ℕ) (it : IncludeFault) → old ≡ [] → IsFaultOf gives lacks 8 name line (IsOver (length new) lines) it →
    IfRefused it (IfSome known (λ texts. AppendsFront old new (said texts 8 name line))) → lines + line_ends old ≤ 0 + line_ends new →
    IsFault known gives lacks name line it
whole_fault known gives lacks name line old new lines it none h front counted =
    fault_by known gives lacks name line new lines it h
    (subst (λ l. IfRefused it (IfSome known (λ texts. AppendsFront l new (said texts 8 name line)))) none front)
    (omega (arith, counted, ap line_ends none))

pub memory_fault : {T : Type 0} (P : IncludeFault → Type 0) (result : Result T IncludeFault) → IfErr result (λ it. it ≡ fault.OutOfMemory) →
    P fault.OutOfMemory → IfErr result P
memory_fault P (Ok done) is so = tt
memory_fault P (Err it) is so = subst P (sym is) so
