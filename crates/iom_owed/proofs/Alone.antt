-- Entries that are used alone.
use Rattle.std.proofs.Common.{◌≡◌, ◌∙◌, ◌+◌, ◌<◌, ◌≤◌, ◌⊎◌, arith, ℕ, Bool, true, false, drop, length, List, [], ◌∷◌, Option, Some, None, refl, sym, ap, subst, inl, inr}
use Rattle.std.specs.Prelude.{IfSome, get_or, unwrap_or}
use Rattle.iom_choices.specs.Models.{end_of}
use Rattle.iom_choices.specs.Settled.{EachUse, IsSettled}
use Rattle.iom_choices.specs.Systems.{ModelWalk, IsAmong}
use Rattle.iom_choices.specs.Trees.{ways_over}
use Rattle.iom_choices.proofs.Lists.{each_weaker}
use Rattle.iom_choices.proofs.Trees.{alike_settled}
use Rattle.iom_core.specs.Access.{address_on}
use Rattle.iom_core.specs.Looking.{by_tables}
use Rattle.iom_core.specs.State.{State}
use Rattle.iom_core.specs.declared.access.Request.{Request}
use Rattle.iom_core.specs.declared.step.Step.{Step}
use Rattle.iom_core.specs.declared.way.Way.{Way as Led}
use Rattle.iom_every.specs.Every.{MayAhead, iommu, is_listed, none_ahead, platform}
use Rattle.iom_every.specs.Rows.{bare}
use Rattle.iom_every.specs.Trees.{every_tree, tree_of}
use Rattle.iom_every.specs.Uses.{Look}
use Rattle.iom_every.specs.Ways.{Goes, way_of}
use Rattle.iom_every.specs.declared.entry.Entry.{Entry}
use Rattle.iom_every.proofs.Caching.{by_tables_is}
use Rattle.iom_ways.specs.Ways.{AreAdded, BeginsWith, leads}
use Rattle.iom_ways.specs.Asked.{Collects, is_asked}
use Rattle.iom_ways.proofs.Usable.{among_rest, none_left, read_among, unasked}
use Rattle.iom_owed.proofs.Results.{if_some}
use Rattle.iom_ways.proofs.Firsts.{memory_first}
use Rattle.iom_owed.specs.Alike.{IsAlike}
use Rattle.iom_owed.specs.Alone.{IsOlder, IsSoughtAlone, IsTold, IsUpTo, LeadsAlike, Serves, ServesAlone, Tries, leads_over}
use Rattle.iom_held.specs.Kept.{entries_in, entry_of}
use Rattle.iom_owed.specs.Holdings.{HoldingsView, Keeps}
use Rattle.iom_owed.specs.Newest.{steps_of}
use Rattle.iom_owed.specs.Settled.{IsAlikeBy, IsSameWay, IsServed, IsServedBy, LeadsOtherwise, NoneServes}
use Rattle.iom_held.specs.declared.kept.Kept.{Kept}
use Rattle.iom_owed.specs.declared.settling.Unsettled.{Unsettled}
use Rattle.iom_held.proofs.Lists.{IsFrom, among_of, from_among}
use Rattle.iom_owed.proofs.Reading.{HasSource, led_alike, led_among, source_of, trees}

-- equal ways are alike
pub alike_if : (whole : Bool) (iova : ℕ) (way other : Led) → way ≡ other → IsAlike whole iova way other
alike_if true iova way other same = same
alike_if false iova way other same = ap (λ (way : Led). address_on way iova) same

-- like one of two equal ways, like the other
pub alike_to : (whole : Bool) (iova : ℕ) (way one other : Led) → IsAlike whole iova way one → one ≡ other → IsAlike whole iova way other
alike_to whole iova way one other alike same = subst (IsAlike whole iova way) same alike

-- where each way over such entries is like the tables', each source of them leads so
pub settled_over : (Holds : Entry → Type 0) (held : List Entry) → ((entry : Entry) → Holds entry → IsAmong held entry) → (state : State) (request : Request) (tables : Led) → tables ≡ by_tables state.machine request →
    ((way : Led) → IsAmong (leads_over (bare state) request held) way → IsAlike false request.iova way tables) → IsSettled (iommu none_ahead) Holds (bare state) (Some request)
settled_over Holds held listed state request tables told alike =
    let to : Led → Goes = λ way. address_on way request.iova in
    alike_settled (iommu none_ahead) every_tree trees Holds held listed (bare state) request
    (led_alike (bare state) request held (to (way_of (bare state) [] request).led) (λ way among. alike way among ∙ ap to (told ∙ sym (by_tables_is state request))))

pub same_over : (Holds : Entry → Type 0) (held : List Entry) → ((entry : Entry) → Holds entry → IsAmong held entry) → (state : State) (request : Request) (tables : Led) → tables ≡ by_tables state.machine request →
    ((way : Led) → IsAmong (leads_over (bare state) request held) way → IsAlike true request.iova way tables) → IsSameWay Holds state request
same_over Holds held listed state request tables told alike = λ source each.
    alike (way_of (bare state) source request).led (led_among Holds held listed (bare state) request source each) ∙ told

-- so of an entry alone
alone_settled : (whole : Bool) (state : State) (request : Request) (entry : Entry) (tables : Led) → tables ≡ by_tables state.machine request →
    ((way : Led) → IsAmong (leads_over (bare state) request (entry ∷ [])) way → IsAlike whole request.iova way tables) → IsAlikeBy whole state request entry
alone_settled true state request entry tables told alike = same_over (λ other. other ≡ entry) (entry ∷ []) (λ other same. inl (sym same)) state request tables told alike
alone_settled false state request entry tables told alike = settled_over (λ other. other ≡ entry) (entry ∷ []) (λ other same. inl (sym same)) state request tables told alike

only : (entry other : Entry) → IsAmong (entry ∷ []) other → other ≡ entry
only entry other (inl same) = sym same
only entry other (inr none) = absurd none

-- a source of this entry alone that leads there
record HasAlone (state : State) (request : Request) (entry : Entry) (led : Led) : Type 0 where
  source : List (Look × Entry)
  alone : EachUse (λ other. other ≡ entry) source
  is : (way_of state source request).led ≡ led

has_alone : (state : State) (request : Request) (entry : Entry) (led : Led) → IsAmong (leads_over state request (entry ∷ [])) led → HasAlone state request entry led
has_alone state request entry led among =
    let ways : List (ModelWalk Entry Led) = ways_over (entry ∷ []) (tree_of state request) in
    let f : IsFrom (λ (way : ModelWalk Entry Led). way.led) ways led = from_among (λ (way : ModelWalk Entry Led). way.led) ways led among in
    let s : HasSource (λ other. other ≡ entry) state request f.thing = source_of (λ other. other ≡ entry) (entry ∷ []) (only entry) state request f.thing f.among in record {
      source = s.source;
      alone = s.may;
      is = ap (λ (way : ModelWalk Entry Led). way.led) s.is ∙ f.is;
    }

-- no entry serves it alone
pub none_served : (whole : Bool) (held : HoldingsView) (state : State) (request : Request) (tables : Led) → tables ≡ by_tables state.machine request →
    IsSoughtAlone whole (bare state) request tables held.entries None → NoneServes whole held state request
none_served whole held state request tables told sought = λ kept among. alone_settled whole state request kept.entry tables told (sought kept among)

served_at : (ahead : List Request) (whole : Bool) (held : HoldingsView) (state start : State) (taken : List (Step × ℕ)) (request : Request) (tables : Led) (found : Unsettled) →
    state ≡ end_of platform start (steps_of taken) → Keeps ahead held (end_of platform start (steps_of taken)) start taken →
    tables ≡ by_tables (end_of platform start (steps_of taken)).machine request → ServesAlone whole (bare (end_of platform start (steps_of taken))) request tables held.entries found →
    LeadsOtherwise ahead whole held start (steps_of taken) request found
served_at ahead whole held state start taken request tables found is k told serves =
    let at : State = end_of platform start (steps_of taken) in
    let h : HasAlone (bare at) request serves.kept.entry found.elsewhere = has_alone (bare at) request serves.kept.entry found.elsewhere serves.serves.led in
    let by : IsServedBy whole held at request found.elsewhere serves.kept = record {
      among = serves.among;
      source = h.source;
      alone = h.alone;
      led = h.is;
      oldest = λ other among. elim (serves.oldest other among) [
        | inl alike ↦ inl (alone_settled whole at request other.entry tables told alike)
        | inr older ↦ inr older
      ];
    } in
    let may : MayAhead (is_listed ahead) start (steps_of taken) serves.kept.entry = (k.entries serves.kept.entry).0 (among_of entry_of held.entries serves.kept serves.among) in record {
      source = h.source;
      may = each_weaker (λ (used : Look × Entry). used.1 ≡ serves.kept.entry) (λ (used : Look × Entry). MayAhead (is_listed ahead) start (steps_of taken) used.1) h.source
          (λ used same. subst (MayAhead (is_listed ahead) start (steps_of taken)) (sym same) may) h.alone;
      led = h.is;
      tables = sym (serves.serves.told ∙ told);
      differs = λ alike. serves.serves.differs (alike_to whole request.iova found.elsewhere found.tables tables alike serves.serves.told);
      served = subst (IsServed whole held at request found.elsewhere) (sym serves.serves.by) by;
    }

-- one of them does
pub one_served : (ahead : List Request) (whole : Bool) (held : HoldingsView) (state start : State) (taken : List (Step × ℕ)) (request : Request) (tables : Led) (found : Unsettled) → Keeps ahead held state start taken →
    tables ≡ by_tables state.machine request → ServesAlone whole (bare state) request tables held.entries found → LeadsOtherwise ahead whole held start (steps_of taken) request found
one_served ahead whole held state start taken request tables found k told serves =
    let P : State → Type 0 = λ state. Keeps ahead held state start taken → tables ≡ by_tables state.machine request →
    ServesAlone whole (bare state) request tables held.entries found → LeadsOtherwise ahead whole held start (steps_of taken) request found in
    subst P (sym k.reached) (served_at ahead whole held (end_of platform start (steps_of taken)) start taken request tables found refl) k told serves

-- what is known of the entries that were tried; these are left
pub record AreTried (whole : Bool) (state : State) (request : Request) (tables : Led) (all left : List Kept) (found : Option Unsettled) : Type 0 where
  pub tried : (kept : Kept) → IsAmong all kept → IsAmong left kept ⊎ (LeadsAlike whole state request tables kept ⊎ IsOlder found kept.number)
  pub serves : IfSome found (λ one. (kept : Kept) × (IsAmong all kept × Serves whole state request tables kept one))

pub none_tried : (whole : Bool) (state : State) (request : Request) (tables : Led) (all : List Kept) → AreTried whole state request tables all all None
none_tried whole state request tables all = record { tried = λ kept among. inl among; serves = tt }

-- one more
pub tried_more : (whole : Bool) (state : State) (request : Request) (tables : Led) (all : List Kept) (n : ℕ) (kept : Kept) (before after : Option Unsettled) → n < length all → kept ≡ get_or all n kept →
    AreTried whole state request tables all (drop n all) before → Tries whole state request tables kept before after → AreTried whole state request tables all (drop (n + 1) all) after
tried_more whole state request tables all n kept before after within is so_far one = record {
  tried = λ other among.
      elim (so_far.tried other among) [
        | inl left ↦ elim (among_rest all n kept other within is left) [
          | inl later ↦ inl later
          | inr same ↦ inr (subst (λ (k : Kept). LeadsAlike whole state request tables k ⊎ IsOlder after k.number) same one.tried)
        ]
        | inr done ↦ elim done [
          | inl alike ↦ inr (inl alike)
          | inr older ↦ inr (inr (one.still other.number older))
        ]
      ];
  serves = elim one.found [
    | inl same ↦ subst (λ (found : Option Unsettled). IfSome found (λ one. (kept : Kept) × (IsAmong all kept × Serves whole state request tables kept one))) (sym same) so_far.serves
    | inr new ↦ if_some after (λ found. Serves whole state request tables kept found) (λ one. (kept : Kept) × (IsAmong all kept × Serves whole state request tables kept one))
        (λ found serves. (kept, (read_among all n kept within is, serves))) new
  ];
}

module _ (whole : Bool) (state : State) (request : Request) (tables : Led) (kept : Kept) (found : Option Unsettled) where
  pub tried_older : IsOlder found kept.number → Tries whole state request tables kept found found
  tried_older older = record { tried = inr older; still = λ number h. h; found = inl refl }

  pub tried_alike : LeadsAlike whole state request tables kept → Tries whole state request tables kept found found
  tried_alike alike = record { tried = inl alike; still = λ number h. h; found = inl refl }

  pub tried_new : (elsewhere : Led) → ((number : ℕ) → IsOlder found number → kept.number ≤ number) → IsAmong (leads_over state request (kept.entry ∷ [])) elsewhere → (IsAlike whole request.iova elsewhere tables → ⊥) →
      Tries whole state request tables kept found (Some (record { elsewhere = elsewhere; tables = tables; serving = Some kept }))
  tried_new elsewhere newer led differs = record {
    tried = inr (omega arith);
    still = newer;
    found = inr (record { by = refl; led = led; told = refl; differs = differs });
  }

-- an entry that the walk in memory doesn't ask for leads nowhere else
module _ (whole : Bool) (state : State) (request : Request) (tables : Led) (held before asked : List Kept) (n : ℕ) (told : tables ≡ by_tables state.machine request) (put : Collects held (is_asked (tree_of (bare state) request)) before asked) where
  each_tried : (found : Option Unsettled) → AreTried whole (bare state) request tables asked (drop n asked) found → length asked ≤ n →
      (kept : Kept) → IsAmong held kept → LeadsAlike whole (bare state) request tables kept ⊎ IsOlder found kept.number
  each_tried found so_far end kept among =
      let Goal : Bool → Type 0 = λ b. is_asked (tree_of (bare state) request) kept.entry ≡ b → LeadsAlike whole (bare state) request tables kept ⊎ IsOlder found kept.number in
      let by_asked : (b : Bool) → Goal b = λ b. elim b as Goal [
        | true ↦ λ is. elim (so_far.tried kept (put.all kept among is)) [
          | inl left ↦ absurd (none_left asked n kept end left)
          | inr done ↦ done
        ]
        | false ↦ λ is. inl (λ way led.
            let only_memory : IsAmong (leads (way_of (bare state) [] request ∷ [])) way =
            subst (λ (ways : List (ModelWalk Entry Led)). IsAmong (leads ways) way) (unasked (bare state) request kept.entry is) led in
            elim only_memory [
              | inl same ↦ alike_if whole request.iova way tables (sym same ∙ by_tables_is state request ∙ sym told)
              | inr none ↦ absurd none
            ])
      ] in by_asked (is_asked (tree_of (bare state) request) kept.entry) refl

  pub all_tried : (found : Option Unsettled) → before ≡ [] → AreTried whole (bare state) request tables asked (drop n asked) found → length asked ≤ n →
      IsSoughtAlone whole (bare state) request tables held found
  all_tried None empty so_far end = λ kept among. elim (each_tried None so_far end kept among) [
    | inl alike ↦ alike
    | inr none ↦ absurd none
  ]
  all_tried (Some found) empty so_far end =
      let one = so_far.serves in record {
        kept = one.0;
        among = elim (put.among one.0 one.1.0) [
          | inl old ↦ absurd (subst (λ (all : List Kept). IsAmong all one.0) empty old)
          | inr new ↦ new
        ];
        serves = one.1.1;
        oldest = λ other among. elim (each_tried (Some found) so_far end other among) [
          | inl alike ↦ inl alike
          | inr older ↦ inr (subst (λ (serving : Option Kept). IsUpTo serving other.number) one.1.1.by older)
        ];
      }

-- memory's way is among the ways
pub memory_among : (state : State) (request : Request) (held : List Entry) → IsAmong (leads_over state request held) (way_of state [] request).led
memory_among state request held =
    let first : BeginsWith (way_of state [] request) (ways_over held (tree_of state request)) = memory_first held state request in
    subst (λ (ways : List (ModelWalk Entry Led)). IsAmong (leads ways) (way_of state [] request).led) (sym first.is) (inl refl)

-- if the ways all lead alike, each is the tables'
pub told_alike : (whole : Bool) (state : State) (request : Request) (held : List Kept) (led : List Led) → AreAdded (leads_over (bare state) request (entries_in held)) [] led →
    ((way other : Led) → IsAmong led way → IsAmong led other → way ≡ other) → IsTold whole state held request None
told_alike whole state request held led gathered alike = λ way among.
    alike_if whole request.iova way (by_tables state.machine request)
    (alike way (way_of (bare state) [] request).led ((gathered way).1 (inr among))
    ((gathered (way_of (bare state) [] request).led).1 (inr (memory_among (bare state) request (entries_in held))))
    ∙ by_tables_is state request)

-- what is told of a request that one of the ways leads otherwise
pub told_otherwise : (whole : Bool) (state : State) (request : Request) (held : List Kept) (tables elsewhere : Led) (sought : Option Unsettled) → tables ≡ by_tables state.machine request →
    IsAmong (leads_over (bare state) request (entries_in held)) elsewhere → (IsAlike whole request.iova elsewhere tables → ⊥) → IsSoughtAlone whole (bare state) request tables held sought →
    IsTold whole state held request (Some (unwrap_or sought (record { elsewhere = elsewhere; tables = tables; serving = None })))
told_otherwise whole state request held tables elsewhere None told among differs sought = inr (record {
  by = refl;
  led = among;
  told = told;
  differs = λ alike. differs (alike_to whole request.iova elsewhere (by_tables state.machine request) tables alike (sym told));
  none = subst (λ (tables : Led). IsSoughtAlone whole (bare state) request tables held None) told sought;
})
told_otherwise whole state request held tables elsewhere (Some found) told among differs sought =
    inl (subst (λ (tables : Led). ServesAlone whole (bare state) request tables held found) told sought)
