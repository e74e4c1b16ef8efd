-- The tests for equality decide it.
use Rattle.std.proofs.Common.{◌≡◌, ◌==◌, ◌&&◌, ℕ, Bool, true, false, ◌∙◌, if◌then◌else◌, refl, sym, ap, subst, arith}
use Rattle.std.specs.Prelude.{IsTrue, IfSome, Option, None, Some, is_some, ◌↔◌, ◌≢◌}
use Rattle.std.proofs.lemmas.Bool.{eqb-true, false_from_ne_true}
use Rattle.std.proofs.lemmas.Grind.{common_steps}
use Rattle.iom_bits.specs.Bits.{flag}
use Rattle.iom_bits.specs.Causes.{cause_number}
use Rattle.iom_bits.specs.declared.causes.Kind.TheVariants.{Read, Write}
use Rattle.iom_bits.specs.declared.causes.Cause.{Cause}
use Rattle.iom_bits.specs.declared.causes.Cause.TheVariants.{Access, Page, Guest, Off, DirAccess, DirInvalid, DirBad, TooWide, MsiAccess, MsiInvalid, MsiBad}
use Rattle.iom_ddt.specs.declared.context.Context.{Context}
use Rattle.iom_ddt.specs.declared.context.MsiTable.{MsiTable}
use Rattle.iom_nested.specs.declared.translation.Hit.{Hit}
use Rattle.iom_core.specs.declared.access.Denial.{Denial}
use Rattle.iom_cache.specs.declared.key.Key.{Key}
use Rattle.iom_cache.specs.declared.place.Place.{Place}
use Rattle.iom_cache.specs.declared.place.Place.TheVariants as place
use Rattle.iom_cache.proofs.Same.{same_key_exact, same_key_itself}
use Rattle.iom_core.specs.State.{Machine}
use Rattle.iom_core.specs.Access.{led, request_key}
use Rattle.iom_core.specs.declared.access.Request.{Request}
use Rattle.iom_core.specs.Looking.{by_tables, uncached}
use Rattle.iom_tables.specs.Stale.{IsStale, differing, is_same_context, is_same_denial, is_same_hit, is_same_msi, is_same_way, stale_way}
use Rattle.iom_tables.specs.Standing.{IsContextNow, IsHitNow, IsStanding, found_now, is_context_now, is_found, is_hit_by, is_hit_now, request_of, standing_of}
use Rattle.iom_tables.specs.declared.standing.Located.{Located}
use Rattle.iom_tables.specs.declared.standing.Located.TheVariants as found
use Rattle.iom_tables.specs.declared.standing.Standing.{Standing}
use Rattle.iom_tables.specs.declared.standing.Standing.TheVariants as standing
use Rattle.iom_core.specs.declared.way.Way.{Way}
use Rattle.iom_core.specs.declared.way.Way.TheVariants as way

split : (a b : Bool) → (a && b) ≡ true → (a ≡ true) × (b ≡ true)
split true b is = (refl, is)
split false b is = absurd (cc is)

same_flag : (a b : Bool) → (flag a == flag b) ≡ true → a ≡ b
same_flag true true is = refl
same_flag true false is = absurd (cc is)
same_flag false true is = absurd (cc is)
same_flag false false is = refl

itself : (n : ℕ) → (n == n) ≡ true
itself n = grind (arith, common_steps)

-- a record of its fields
abbrev msi_of : ℕ → ℕ → ℕ → Bool → MsiTable
msi_of ppn mask pattern flat = record { ppn = ppn; mask = mask; pattern = pattern; flat = flat }

abbrev context_of : Bool → ℕ → ℕ → ℕ → ℕ → Bool → ℕ → ℕ → ℕ → MsiTable → Context
context_of dtf custom gmode gppn gscid tav pscid mode ppn msi = record {
  dtf = dtf;
  custom = custom;
  gmode = gmode;
  gppn = gppn;
  gscid = gscid;
  tav = tav;
  pscid = pscid;
  mode = mode;
  ppn = ppn;
  msi = msi;
}

abbrev hit_of : ℕ → ℕ → Bool → Bool → Hit
hit_of frame level global napot = record { frame = frame; level = level; global = global; napot = napot }

abbrev denial_of : Cause → ℕ → Bool → Denial
denial_of cause iotval2 reported = record { cause = cause; iotval2 = iotval2; reported = reported }

same_msi : (t u : MsiTable) → is_same_msi t u ≡ true → t ≡ u
same_msi t u is =
    let s1 = split _ _ is in
    let s2 = split _ _ s1.0 in
    let s3 = split _ _ s2.0 in
    let ppn : t.ppn ≡ u.ppn = eqb-true _ _ s3.0 in
    let mask : t.mask ≡ u.mask = eqb-true _ _ s3.1 in
    let pattern : t.pattern ≡ u.pattern = eqb-true _ _ s2.1 in
    let flat : t.flat ≡ u.flat = same_flag _ _ s1.1 in
    let made : msi_of t.ppn t.mask t.pattern t.flat ≡ msi_of u.ppn u.mask u.pattern u.flat = rw (ppn, mask, pattern, flat) refl in made

same_context : (c d : Context) → is_same_context c d ≡ true → c ≡ d
same_context c d is =
    let s0 = split _ _ is in
    let s1 = split _ _ s0.0 in
    let s2 = split _ _ s1.0 in
    let s3 = split _ _ s2.0 in
    let s4 = split _ _ s3.0 in
    let s5 = split _ _ s4.0 in
    let s6 = split _ _ s5.0 in
    let s7 = split _ _ s6.0 in
    let s8 = split _ _ s7.0 in
    let dtf : c.dtf ≡ d.dtf = same_flag _ _ s8.0 in
    let custom : c.custom ≡ d.custom = eqb-true _ _ s8.1 in
    let gmode : c.gmode ≡ d.gmode = eqb-true _ _ s7.1 in
    let gppn : c.gppn ≡ d.gppn = eqb-true _ _ s6.1 in
    let gscid : c.gscid ≡ d.gscid = eqb-true _ _ s5.1 in
    let tav : c.tav ≡ d.tav = same_flag _ _ s4.1 in
    let pscid : c.pscid ≡ d.pscid = eqb-true _ _ s3.1 in
    let mode : c.mode ≡ d.mode = eqb-true _ _ s2.1 in
    let ppn : c.ppn ≡ d.ppn = eqb-true _ _ s1.1 in
    let msi : c.msi ≡ d.msi = same_msi c.msi d.msi s0.1 in
    let made : context_of c.dtf c.custom c.gmode c.gppn c.gscid c.tav c.pscid c.mode c.ppn c.msi
    ≡ context_of d.dtf d.custom d.gmode d.gppn d.gscid d.tav d.pscid d.mode d.ppn d.msi =
    rw (dtf, custom, gmode, gppn, gscid, tav, pscid, mode, ppn, msi) refl in
    made

same_hit : (h k : Hit) → is_same_hit h k ≡ true → h ≡ k
same_hit h k is =
    let s1 = split _ _ is in
    let s2 = split _ _ s1.0 in
    let s3 = split _ _ s2.0 in
    let frame : h.frame ≡ k.frame = eqb-true _ _ s3.0 in
    let level : h.level ≡ k.level = eqb-true _ _ s3.1 in
    let global : h.global ≡ k.global = same_flag _ _ s2.1 in
    let napot : h.napot ≡ k.napot = same_flag _ _ s1.1 in
    let made : hit_of h.frame h.level h.global h.napot ≡ hit_of k.frame k.level k.global k.napot = rw (frame, level, global, napot) refl in made

-- the cause of a number
abbrev cause_of : ℕ → Cause
cause_of n =
    if n == 5 then Access Read else if n == 7 then Access Write else if n == 13 then Page Read else if n == 15 then Page Write
    else if n == 21 then Guest Read else if n == 23 then Guest Write else if n == 256 then Off else if n == 257 then DirAccess
    else if n == 258 then DirInvalid else if n == 259 then DirBad else if n == 260 then TooWide
    else if n == 261 then MsiAccess else if n == 262 then MsiInvalid else MsiBad

cause_back : (c : Cause) → cause_of (cause_number c) ≡ c
cause_back (Access Read) = refl
cause_back (Access Write) = refl
cause_back (Page Read) = refl
cause_back (Page Write) = refl
cause_back (Guest Read) = refl
cause_back (Guest Write) = refl
cause_back Off = refl
cause_back DirAccess = refl
cause_back DirInvalid = refl
cause_back DirBad = refl
cause_back TooWide = refl
cause_back MsiAccess = refl
cause_back MsiInvalid = refl
cause_back MsiBad = refl

same_cause : (c d : Cause) → cause_number c ≡ cause_number d → c ≡ d
same_cause c d is = sym (cause_back c) ∙ ap cause_of is ∙ cause_back d

same_denial : (x y : Denial) → is_same_denial x y ≡ true → x ≡ y
same_denial x y is =
    let s1 = split _ _ is in
    let s2 = split _ _ s1.0 in
    let cause : x.cause ≡ y.cause = same_cause _ _ (eqb-true _ _ s2.0) in
    let iotval2 : x.iotval2 ≡ y.iotval2 = eqb-true _ _ s2.1 in
    let reported : x.reported ≡ y.reported = same_flag _ _ s1.1 in
    let made : denial_of x.cause x.iotval2 x.reported ≡ denial_of y.cause y.iotval2 y.reported = rw (cause, iotval2, reported) refl in made

msi_itself : (t : MsiTable) → is_same_msi t t ≡ true
msi_itself t = rw (itself t.ppn, itself t.mask, itself t.pattern, itself (flag t.flat)) refl

context_itself : (c : Context) → is_same_context c c ≡ true
context_itself c =
    rw (
      itself (flag c.dtf),
      itself c.custom,
      itself c.gmode,
      itself c.gppn,
      itself c.gscid,
      itself (flag c.tav),
      itself c.pscid,
      itself c.mode,
      itself c.ppn,
      msi_itself c.msi,
    ) refl

hit_itself : (h : Hit) → is_same_hit h h ≡ true
hit_itself h = rw (itself h.frame, itself h.level, itself (flag h.global), itself (flag h.napot)) refl

denial_itself : (x : Denial) → is_same_denial x x ≡ true
denial_itself x = rw (itself (cause_number x.cause), itself x.iotval2, itself (flag x.reported)) refl

way_itself : (w : Way) → is_same_way w w ≡ true
unfolding is_same_way
way_itself way.Register = refl
way_itself (way.Context c) = context_itself c
way_itself (way.Walked c h) = rw (context_itself c, hit_itself h) refl
way_itself (way.Denied x) = denial_itself x

same_way : (v w : Way) → is_same_way v w ≡ true → v ≡ w
unfolding is_same_way
same_way way.Register way.Register is = refl
same_way way.Register (way.Context d) is = absurd (cc is)
same_way way.Register (way.Walked d k) is = absurd (cc is)
same_way way.Register (way.Denied y) is = absurd (cc is)
same_way (way.Context c) way.Register is = absurd (cc is)
same_way (way.Context c) (way.Context d) is = ap way.Context (same_context c d is)
same_way (way.Context c) (way.Walked d k) is = absurd (cc is)
same_way (way.Context c) (way.Denied y) is = absurd (cc is)
same_way (way.Walked c h) way.Register is = absurd (cc is)
same_way (way.Walked c h) (way.Context d) is = absurd (cc is)
same_way (way.Walked c h) (way.Walked d k) is =
    let both = split _ _ is in
    let context = same_context c d both.0 in
    let hit = same_hit h k both.1 in cc (context, hit)
same_way (way.Walked c h) (way.Denied y) is = absurd (cc is)
same_way (way.Denied x) way.Register is = absurd (cc is)
same_way (way.Denied x) (way.Context d) is = absurd (cc is)
same_way (way.Denied x) (way.Walked d k) is = absurd (cc is)
same_way (way.Denied x) (way.Denied y) is = ap way.Denied (same_denial x y is)

-- what decides whether two ways are equal is the test
pub way_test : (b : Bool) (v w : Way) → (IsTrue b ↔ (v ≡ w)) → b ≡ is_same_way v w
way_test true v w decides =
    let same : v ≡ w = decides.0 refl in sym (ap (is_same_way v) (sym same) ∙ way_itself v)
way_test false v w decides =
    sym (false_from_ne_true _ (λ is. cc (decides.1 (same_way v w is))))

-- a place's answer by the tests, if these decide what the tables say
pub standing_told : {K V T : Type 0} (IsSaid : K → V → Type 0) (is_said : K → V → Bool) (say : K → T) →
    ((key : K) (value : V) → IsTrue (is_said key value) ↔ IsSaid key value) → (at : Place K V) (answer : Standing T) →
    IsStanding IsSaid say at answer → answer ≡ standing_of is_said say at
standing_told IsSaid is_said say decides place.Beyond answer is = is
standing_told IsSaid is_said say decides place.Empty answer is = is
standing_told IsSaid is_said say decides (place.Live key value) standing.Beyond is = absurd is
standing_told IsSaid is_said say decides (place.Live key value) standing.Empty is = absurd is
standing_told IsSaid is_said say decides (place.Live key value) standing.Current is =
    let so : is_said key value ≡ true = (decides key value).1 is in rw so refl
standing_told IsSaid is_said say decides (place.Live key value) (standing.Stale now) is =
    let other : is_said key value ≡ false = false_from_ne_true _ (λ so. is.0 ((decides key value).0 so)) in
    rw (other, is.1) refl

found_test : (located : Located) (context : Context) → IsTrue (is_found located context) ↔ (located ≡ found.Context context)
found_test found.NoDirectory context = (λ is. absurd (cc is), λ is. absurd (cc is))
found_test (found.Context now) context = (
  λ is. ap found.Context (same_context now context is),
  λ is. let same : now ≡ context = cc is in rw same (context_itself context),
)
found_test (found.Fault why) context = (λ is. absurd (cc is), λ is. absurd (cc is))

pub context_test : (m : Machine) (did : ℕ) (context : Context) → IsTrue (is_context_now m did context) ↔ IsContextNow m did context
context_test m did context = found_test (found_now m did) context

-- a way that leads a request to a hit by a context under which the request has this key
abbrev HitBy : Way → Request → Key → Hit → Type 0
HitBy w request key hit = (context : Context) × (w ≡ way.Walked context hit) × (request_key request context ≡ key)

hit_test : (w : Way) (request : Request) (key : Key) (hit : Hit) → IsTrue (is_hit_by w request key hit) ↔ HitBy w request key hit
hit_test way.Register request key hit = (λ is. absurd (cc is), λ is. absurd (cc is.1))
hit_test (way.Context context) request key hit = (λ is. absurd (cc is), λ is. absurd (cc is.1))
hit_test (way.Walked context now) request key hit = (
  λ is. let both = split _ _ is in
      (context, ap (way.Walked context) (same_hit now hit both.0), same_key_exact _ _ both.1),
  λ is. let under : context ≡ is.0 = cc is.1 in
      let same : now ≡ hit = cc is.1 in
      let has : request_key request context ≡ key = ap (request_key request) under ∙ is.2 in
      rw (same, hit_itself hit, has) (same_key_itself key),
)
hit_test (way.Denied denial) request key hit = (λ is. absurd (cc is), λ is. absurd (cc is.1))

pub page_test : (m : Machine) (key : Key) (hit : Hit) → IsTrue (is_hit_now m key hit) ↔ IsHitNow m key hit
page_test m key hit = hit_test (by_tables m (request_of key)) (request_of key) key hit

-- something is returned exactly if two ways differ
differs : (now tables : Way) → IsTrue (is_some (differing now tables)) ↔ (now ≢ tables)
differs now tables = (
  λ is same.
      let alike : is_same_way now tables ≡ true =
      ap (λ (w : Way). is_same_way now w) (sym same) ∙ way_itself now in
      absurd (cc (rw alike at is)),
  λ other.
      let apart : is_same_way now tables ≡ false =
      false_from_ne_true _ (λ is. other (same_way _ _ is)) in
      rw apart refl,
)

pub stale_told : (m : Machine) (request : Request) (found : Option Way) → found ≡ stale_way m request →
    IsTrue (is_some found) ↔ IsStale m request
unfolding stale_way
stale_told m request found is =
    let at = differs (led m request).way (led (uncached m) request).way in
    (λ so. at.0 (ap is_some (sym is) ∙ so), λ other. ap is_some is ∙ at.1 other)

-- and then it is the way by the tables
told_tables : (now tables : Way) → IfSome (differing now tables) (λ way. way ≡ tables)
told_tables now tables = elim (is_same_way now tables) as (λ same. IfSome (if same then None else Some tables) (λ way. way ≡ tables)) [
  | true ↦ tt
  | false ↦ refl
]

pub stale_tables : (m : Machine) (request : Request) (found : Option Way) → found ≡ stale_way m request →
    IfSome found (λ way. way ≡ by_tables m request)
unfolding stale_way
stale_tables m request found is =
    subst (λ (f : Option Way). IfSome f (λ way. way ≡ by_tables m request)) (sym is) (told_tables (led m request).way (by_tables m request))
