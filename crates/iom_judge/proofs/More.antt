-- What can be read over more entries is more, and over the same ones the same.
use Rattle.std.proofs.Common.{List, Option, Some, None, inl, inr}
use Rattle.std.specs.Prelude.{filter, flat_map}
use Rattle.iom_choices.specs.Systems.{IsAmong, ModelWalk}
use Rattle.iom_choices.specs.Trees.{Ends, Looks, Tree, reads_in, ways_of, ways_over}
use Rattle.iom_choices.proofs.Lists.{IsPassed, among-left, among-right, among_either, passed}
use Rattle.iom_choices.proofs.Trees.{IsFromOne, among_filter, among_map, from_one}
use Rattle.iom_core.specs.State.{State}
use Rattle.iom_core.specs.declared.access.Request.{Request}
use Rattle.iom_every.proofs.Split.{IsFlatFrom, flat_from, flat_to}
use Rattle.iom_every.specs.Entries.{kept_as}
use Rattle.iom_every.specs.Trees.{tree_of}
use Rattle.iom_every.specs.declared.entry.Entry.{Entry}
use Rattle.iom_judge.proofs.Held.{AreSame}
use Rattle.iom_owed.specs.Notes.{read_by}

ways_more : {K E L : Type 0} (held more : List E) → ((entry : E) → IsAmong held entry → IsAmong more entry) → (tree : Tree K E L) (way : ModelWalk E L) →
    IsAmong (ways_over held tree) way → IsAmong (ways_over more tree) way
ways_more held more sub (Ends own) way h = h
ways_more {K} {E} {L} held more sub (Looks look fits next) way h =
    let few : E → List (ModelWalk E L) = λ entry. ways_over held (next (Some entry)) in
    let many : E → List (ModelWalk E L) = λ entry. ways_over more (next (Some entry)) in
    elim (among_either (ways_over held (next None)) (flat_map few (filter (fits look) held)) way h) [
      | inl here ↦ among-left (ways_over more (next None)) (flat_map many (filter (fits look) more)) way (ways_more held more sub (next None) way here)
      | inr there ↦
          let f : IsFromOne few (filter (fits look) held) way = from_one few (filter (fits look) held) way there in
          let p : IsPassed (fits look) held f.source = passed (fits look) held f.source f.at in
          among-right (ways_over more (next None)) (flat_map many (filter (fits look) more)) way
          (among_map many (filter (fits look) more) f.source way (among_filter (fits look) more f.source (sub f.source p.among) p.passes)
          (ways_more held more sub (next (Some f.source)) way f.among))
    ]

pub reads_more : (state : State) (held more : List Entry) → ((entry : Entry) → IsAmong held entry → IsAmong more entry) → (request : Option Request) (entry : Entry) →
    IsAmong (reads_in (ways_of tree_of state held request)) entry → IsAmong (reads_in (ways_of tree_of state more request)) entry
reads_more state held more sub None entry h = h
reads_more state held more sub (Some request) entry h =
    let f = from_one (λ way. way.reads) (ways_over held (tree_of state request)) entry h in
    among_map (λ way. way.reads) (ways_over more (tree_of state request)) f.source entry (ways_more held more sub (tree_of state request) f.source f.at) f.among

-- in each form
pub forms_more : (state : State) (held more : List Entry) → ((entry : Entry) → IsAmong held entry → IsAmong more entry) → (request : Option Request) (entry : Entry) →
    IsAmong (read_by state held request) entry → IsAmong (read_by state more request) entry
forms_more state held more sub request entry h =
    let forms : Entry → List Entry = kept_as state.machine.registers.features in
    let f : IsFlatFrom forms (reads_in (ways_of tree_of state held request)) entry = flat_from forms (reads_in (ways_of tree_of state held request)) entry h in
    flat_to forms (reads_in (ways_of tree_of state more request)) f.source entry (reads_more state held more sub request f.source f.of) f.among

pub forms_same : (state : State) (held more : List Entry) → AreSame held more → (request : Option Request) → AreSame (read_by state held request) (read_by state more request)
forms_same state held more same request = record {
  within = forms_more state held more same.within request;
  enough = forms_more state more held same.enough request;
}
