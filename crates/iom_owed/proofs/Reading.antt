-- What a request can read over entries that may be held is what the definitions of every IOMMU say.
use Rattle.std.proofs.Common.{◌≡◌, ◌∙◌, ◌⊎◌, ◌&&◌, Bool, true, false, List, [], ◌∷◌, Option, Some, None, if◌then◌else◌, refl, sym, ap, subst, inl, inr}
use Rattle.std.specs.Prelude.{flat_map}
use Rattle.std.specs.List.{AllByRecursion}
use Rattle.iom_choices.specs.Pauses.{IsReadAhead, own_walk, paused}
use Rattle.iom_choices.specs.Settled.{EachUse, IsRead}
use Rattle.iom_choices.specs.Systems.{ModelWalk, IsAmong, aimed, reads_of}
use Rattle.iom_choices.specs.Trees.{AreTrees, reads_in, way_over, ways_of, ways_over}
use Rattle.iom_choices.proofs.Lists.{among_either, each_of, each_weaker}
use Rattle.iom_choices.proofs.Trees.{IsAllowed, allowed, among_map, way_among}
use Rattle.iom_core.specs.Access.{address_on}
use Rattle.iom_core.specs.State.{State}
use Rattle.iom_core.specs.Table.{request_of_step}
use Rattle.iom_core.specs.declared.access.Request.{Request}
use Rattle.iom_core.specs.declared.step.Step.{Step}
use Rattle.iom_core.specs.declared.way.Way.{Way as Led}
use Rattle.iom_every.specs.declared.entry.Entry.{Entry}
use Rattle.iom_every.specs.Every.{alone_iommu, iommu, is_listed, none_ahead}
use Rattle.iom_every.specs.Entries.{kept_as}
use Rattle.iom_every.specs.Trees.{every_tree, tree_of}
use Rattle.iom_every.specs.Uses.{Look}
use Rattle.iom_every.specs.Ways.{Goes, way_of}
use Rattle.iom_every.proofs.Ahead.{is_among, listed as is_listed_there, trees as every_trees}
use Rattle.iom_every.proofs.Split.{IsFlatFrom, IsKeptWay, flat_from, flat_to, kept_way}
use Rattle.iom_every.proofs.Trees.{tree_apart, tree_is}
use Rattle.iom_held.proofs.Lists.{among_of}
use Rattle.iom_ways.specs.Ways.{leads}
use Rattle.iom_owed.specs.Notes.{read_by}

pub trees : AreTrees (iommu none_ahead) every_tree
trees = every_trees none_ahead

-- where each way takes the request to one place, each way does of the walks whose reads are kept in each form
pub led_alike : (state : State) (request : Request) (held : List Entry) (goes : Goes) →
    ((way : Led) → IsAmong (leads (ways_over held (tree_of state request))) way → address_on way request.iova ≡ goes) →
    AllByRecursion (λ (way : ModelWalk Entry Goes). way.led ≡ goes) (ways_over held (every_tree state request))
led_alike state request held goes alike =
    each_of (λ (way : ModelWalk Entry Goes). way.led ≡ goes) (ways_over held (every_tree state request)) (λ way among.
    let k : IsKeptWay state.machine.registers.features request.iova (ways_over held (tree_of state request)) way =
    kept_way state.machine.registers.features request.iova held (tree_of state request) way among in
    sym (ap (λ (way : ModelWalk Entry Goes). way.led) k.same)
    ∙ alike k.own.led (among_of (λ (way : ModelWalk Entry Led). way.led) (ways_over held (tree_of state request)) k.own k.among))

-- the way that read an entry
record IsReadBy (ways : List (ModelWalk Entry Led)) (entry : Entry) : Type 0 where
  way : ModelWalk Entry Led
  at : IsAmong ways way
  among : IsAmong way.reads entry

read_of : (ways : List (ModelWalk Entry Led)) (entry : Entry) → IsAmong (flat_map (λ (way : ModelWalk Entry Led). way.reads) ways) entry → IsReadBy ways entry
read_of [] entry h = absurd h
read_of (way ∷ ways) entry h = elim (among_either way.reads (flat_map (λ (way : ModelWalk Entry Led). way.reads) ways) entry h) [
  | inl here ↦ record { way = way; at = inl refl; among = here }
  | inr later ↦ let k : IsReadBy ways entry = read_of ways entry later in record { way = k.way; at = inr k.at; among = k.among }
]

-- a source that has one of these ways
pub record HasSource (May : Entry → Type 0) (state : State) (request : Request) (way : ModelWalk Entry Led) : Type 0 where
  pub source : List (Look × Entry)
  pub may : EachUse May source
  pub is : way_of state source request ≡ way

-- the way of a source of such entries is among their ways
pub led_among : (May : Entry → Type 0) (held : List Entry) → ((entry : Entry) → May entry → IsAmong held entry) → (state : State) (request : Request) (source : List (Look × Entry)) → EachUse May source →
    IsAmong (leads (ways_over held (tree_of state request))) (way_of state source request).led
led_among May held listed state request source each =
    let uses : EachUse (IsAmong held) source =
    each_weaker (λ (used : Look × Entry). May used.1) (λ (used : Look × Entry). IsAmong held used.1) source (λ used may. listed used.1 may) each in
    let among : IsAmong (ways_over held (tree_of state request)) (way_of state source request) =
    subst (IsAmong (ways_over held (tree_of state request))) (tree_is state source request)
    (way_among held [] (tree_of state request) (tree_apart state request) source uses) in
    among_of (λ (way : ModelWalk Entry Led). way.led) (ways_over held (tree_of state request)) (way_of state source request) among

module _ (May : Entry → Type 0) (held : List Entry) where
  pub source_of : ((entry : Entry) → IsAmong held entry → May entry) → (state : State) (request : Request) (way : ModelWalk Entry Led) →
      IsAmong (ways_over held (tree_of state request)) way → HasSource May state request way
  source_of may state request way among =
      let a : IsAllowed held [] (tree_of state request) way = allowed held [] (tree_of state request) (tree_apart state request) way among in record {
        source = a.source;
        may = each_weaker (λ (used : Look × Entry). IsAmong held used.1) (λ (used : Look × Entry). May used.1) a.source (λ used among. may used.1 among) a.each;
        is = sym (tree_is state a.source request) ∙ a.leads [] tt;
      }

  read_may : ((entry : Entry) → IsAmong held entry → May entry) → (state : State) (step : Step) (entry : Entry) (request : Option Request) →
      request_of_step state step ≡ request → IsAmong (read_by state held request) entry → IsRead (iommu none_ahead) May state step entry
  read_may may state step entry None is h = absurd h
  read_may may state step entry (Some request) is h =
      let k : IsFlatFrom (kept_as state.machine.registers.features) (reads_in (ways_of tree_of state held (Some request))) entry =
      flat_from (kept_as state.machine.registers.features) (reads_in (ways_of tree_of state held (Some request))) entry h in
      let f : IsReadBy (ways_over held (tree_of state request)) k.source = read_of (ways_over held (tree_of state request)) k.source k.of in
      let s : HasSource May state request f.way = source_of may state request f.way f.at in
      let reads : IsAmong (reads_of (iommu none_ahead) state s.source (Some request)) entry =
      flat_to (kept_as state.machine.registers.features) (way_of state s.source request).reads k.source entry
      (subst (λ (way : ModelWalk Entry Led). IsAmong way.reads k.source) (sym s.is) f.among) k.among in
      record {
        target = None;
        source = s.source;
        may = s.may;
        among = subst (λ (asked : Option Request). IsAmong (reads_of (iommu none_ahead) state s.source asked) entry) (sym is) reads;
      }

  listed : (state : State) (source : List (Look × Entry)) → EachUse (IsAmong held) source → (entry : Entry) (request : Option Request) →
      IsAmong (reads_of (iommu none_ahead) state source request) entry → IsAmong (read_by state held request) entry
  listed state source each entry None h = absurd h
  listed state source each entry (Some request) h =
      let k : IsFlatFrom (kept_as state.machine.registers.features) (way_of state source request).reads entry =
      flat_from (kept_as state.machine.registers.features) (way_of state source request).reads entry h in
      let among : IsAmong (reads_in (ways_of tree_of state held (Some request))) k.source =
      among_map (λ (way : ModelWalk Entry Led). way.reads) (ways_over held (tree_of state request)) (way_over source (tree_of state request)) k.source
      (way_among held [] (tree_of state request) (tree_apart state request) source each)
      (subst (λ (way : ModelWalk Entry Led). IsAmong way.reads k.source) (sym (tree_is state source request)) k.of) in
      flat_to (kept_as state.machine.registers.features) (reads_in (ways_of tree_of state held (Some request))) k.source entry among k.among

  own : (state : State) (step : Step) (source : List (Look × Entry)) (entry : Entry) (target : Option Request) →
      IsAmong (reads_of (iommu none_ahead) state source (aimed (iommu none_ahead) state step target)) entry → IsAmong (reads_of (iommu none_ahead) state source (request_of_step state step)) entry
  own state step source entry None h = h
  own state step source entry (Some request) h = absurd h

  may_read : ((entry : Entry) → May entry → IsAmong held entry) → (state : State) (step : Step) (entry : Entry) →
      IsRead (iommu none_ahead) May state step entry → IsAmong (read_by state held (request_of_step state step)) entry
  may_read among state step entry read =
      listed state read.source
      (each_weaker (λ (used : Look × Entry). May used.1) (λ (used : Look × Entry). IsAmong held used.1) read.source (λ used may. among used.1 may) read.may)
      entry (request_of_step state step) (own state step read.source entry read.target read.among)

  pub could_read : ((entry : Entry) → IsAmong held entry → May entry) → (state : State) (step : Step) (request : Option Request) → request_of_step state step ≡ request →
      (entry : Entry) → IsAmong (read_by state held request) entry → IsRead (iommu none_ahead) May state step entry
  could_read may state step request is entry h = read_may may state step entry request is h

  pub read_could : ((entry : Entry) → May entry → IsAmong held entry) → (state : State) (step : Step) (request : Option Request) → request_of_step state step ≡ request →
      (entry : Entry) → IsRead (iommu none_ahead) May state step entry → IsAmong (read_by state held request) entry
  read_could among state step request is entry read =
      subst (λ (asked : Option Request). IsAmong (read_by state held asked) entry) is (may_read among state step entry read)

-- what a step reads for its own access it reads where memory is read ahead
own_alone : (ahead : Request → Bool) (state : State) (source : List (Look × Entry)) (request : Option Request) →
    reads_of (iommu none_ahead) state source request ≡ reads_of (alone_iommu ahead) state source (own_walk request)
own_alone ahead state source None = refl
own_alone ahead state source (Some request) = refl

pub own_read : (ahead : Request → Bool) (May : Entry → Type 0) (state : State) (step : Step) (entry : Entry) → IsRead (iommu none_ahead) May state step entry → IsRead (alone_iommu ahead) May state step entry
own_read ahead May state step entry read = record {
  target = None;
  source = read.source;
  may = read.may;
  among = subst (λ (reads : List Entry). IsAmong reads entry) (own_alone ahead state read.source (request_of_step state step))
      (own May [] state step read.source entry read.target read.among);
}

-- what a step reads, it reads for its own access, or it could be read ahead
pub read_either : (ahead : Request → Bool) (May : Entry → Type 0) (state : State) (step : Step) (entry : Entry) → IsRead (alone_iommu ahead) May state step entry →
    IsReadAhead (alone_iommu ahead) May state entry ⊎ IsRead (iommu none_ahead) May state step entry
read_either ahead May state step entry read =
    let Goal : Option (Bool × Request) → Type 0 = λ target. IsAmong (reads_of (alone_iommu ahead) state read.source (aimed (alone_iommu ahead) state step target)) entry →
    IsReadAhead (alone_iommu ahead) May state entry ⊎ IsRead (iommu none_ahead) May state step entry in
    let by_target : (target : Option (Bool × Request)) → Goal target = λ target. elim target as Goal [
      | None ↦ λ among. inr (record {
        target = None;
        source = read.source;
        may = read.may;
        among = subst (λ (reads : List Entry). IsAmong reads entry) (sym (own_alone ahead state read.source (request_of_step state step))) among;
      })
      | Some request ↦
          let ByTest : Bool → Type 0 = λ b. (alone_iommu ahead).ahead request ≡ b → IsAmong (reads_of (alone_iommu ahead) state read.source (if b then Some request else None)) entry →
          IsReadAhead (alone_iommu ahead) May state entry ⊎ IsRead (iommu none_ahead) May state step entry in
          let by_test : (b : Bool) → ByTest b = λ b. elim b as ByTest [
            | true ↦ λ is among. inl (record {
              target = Some request;
              source = read.source;
              may = read.may;
              among = subst (λ (b : Bool). IsAmong (reads_of (paused (alone_iommu ahead)) state read.source (if b then Some request else None)) entry) (sym is) among;
            })
            | false ↦ λ is among. absurd among
          ] in by_test ((alone_iommu ahead).ahead request) refl
    ] in by_target read.target read.among

-- a source of nothing is empty
none_used : (source : List (Look × Entry)) → EachUse (λ entry. ⊥) source → source ≡ []
none_used [] each = refl
none_used (used ∷ source) each = absurd each.0

-- what memory alone gives a request of the list is read ahead
pub ahead_read : (ahead : List Request) (May : Entry → Type 0) (state : State) (request : Request) → IsAmong ahead request → (entry : Entry) → IsAmong (read_by state [] (Some request)) entry →
    IsReadAhead (alone_iommu (is_listed ahead)) May state entry
ahead_read ahead May state request there entry h =
    let None_held : Entry → Type 0 = λ entry. ⊥ in
    let k : IsFlatFrom (kept_as state.machine.registers.features) (reads_in (ways_of tree_of state [] (Some request))) entry =
    flat_from (kept_as state.machine.registers.features) (reads_in (ways_of tree_of state [] (Some request))) entry h in
    let f : IsReadBy (ways_over [] (tree_of state request)) k.source = read_of (ways_over [] (tree_of state request)) k.source k.of in
    let s : HasSource None_held state request f.way = source_of None_held [] (λ entry h. h) state request f.way f.at in
    let none : s.source ≡ [] = none_used s.source s.may in
    let way : way_of state [] request ≡ f.way = subst (λ (source : List (Look × Entry)). way_of state source request ≡ f.way) none s.is in
    let reads : IsAmong (reads_of (paused (alone_iommu (is_listed ahead))) state [] (Some (true, request))) entry =
    flat_to (kept_as state.machine.registers.features) (way_of state [] request).reads k.source entry
    (subst (λ (way : ModelWalk Entry Led). IsAmong way.reads k.source) (sym way) f.among) k.among in
    record {
      target = Some (true, request);
      source = [];
      may = tt;
      among = subst (λ (b : Bool). IsAmong (reads_of (paused (alone_iommu (is_listed ahead))) state [] (if b then Some (true, request) else None)) entry) (sym (is_listed_there ahead request there)) reads;
    }

-- a request of the list reads it
pub record IsReadByOne (ahead : List Request) (state : State) (entry : Entry) : Type 0 where
  pub request : Request
  pub there : IsAmong ahead request
  pub read : IsAmong (read_by state [] (Some request)) entry

by_walk : (ahead : List Request) (state : State) (source : List (Look × Entry)) (entry : Entry) (alone : Bool) (request : Request) →
    IsAmong (reads_of (paused (alone_iommu (is_listed ahead))) state source (if alone && is_listed ahead request then Some (alone, request) else None)) entry → IsReadByOne ahead state entry
by_walk ahead state source entry false request h = absurd h
by_walk ahead state source entry true request h =
    let ByTest : Bool → Type 0 = λ b. is_listed ahead request ≡ b → IsAmong (reads_of (paused (alone_iommu (is_listed ahead))) state source (if b then Some (true, request) else None)) entry → IsReadByOne ahead state entry in
    let by_test : (b : Bool) → ByTest b = λ b. elim b as ByTest [
      | true ↦ λ is h. record {
        request = request;
        there = is_among ahead request is;
        read = listed (λ entry. ⊥) [] state [] tt entry (Some request) h;
      }
      | false ↦ λ is h. absurd h
    ] in by_test (is_listed ahead request) refl h

pub read_ahead_by : (ahead : List Request) (May : Entry → Type 0) (state : State) (entry : Entry) → IsReadAhead (alone_iommu (is_listed ahead)) May state entry → IsReadByOne ahead state entry
read_ahead_by ahead May state entry read =
    let Goal : Option (Bool × Request) → Type 0 = λ target.
    IsAmong (reads_of (paused (alone_iommu (is_listed ahead))) state read.source (aimed (paused (alone_iommu (is_listed ahead))) state None target)) entry → IsReadByOne ahead state entry in
    let by_target : (target : Option (Bool × Request)) → Goal target = λ target. elim target as Goal [
      | None ↦ λ h. absurd h
      | Some walk ↦ by_walk ahead state read.source entry walk.0 walk.1
    ] in by_target read.target read.among
