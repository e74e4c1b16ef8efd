-- The tests on keys are equality.
use Rattle.std.proofs.Common.{◌≡◌, ◌&&◌, ℕ, Bool, true, false, Option, Some, None, refl, ap, arith}
use Rattle.iom_bits.specs.declared.causes.Kind.{Kind}
use Rattle.iom_bits.specs.declared.causes.Kind.TheVariants.{Read, Write}
use Rattle.iom_cache.specs.declared.key.Key.{Key}
use Rattle.iom_cache.specs.Keys.{same_id, same_kind, same_key, same_did}

pub both : (a b : Bool) → (a && b) ≡ true → (a ≡ true) × (b ≡ true)
both true b e = (refl, e)
both false b e = absurd (cc)

each_true : (a b : Bool) → a ≡ true → b ≡ true → (a && b) ≡ true
each_true true b e f = f
each_true false b e f = absurd (cc)

pub same_did_exact : (did own : ℕ) → same_did did own ≡ true → did ≡ own
same_did_exact did own e = grind arith

pub same_did_itself : (did : ℕ) → same_did did did ≡ true
same_did_itself did = grind arith

same_id_exact : (id own : Option ℕ) → same_id id own ≡ true → id ≡ own
same_id_exact None None e = refl
same_id_exact None (Some own) e = absurd (cc)
same_id_exact (Some id) None e = absurd (cc)
same_id_exact (Some id) (Some own) e = ap Some (same_did_exact id own e)

same_id_itself : (id : Option ℕ) → same_id id id ≡ true
same_id_itself None = refl
same_id_itself (Some id) = same_did_itself id

pub same_kind_exact : (kind own : Kind) → same_kind kind own ≡ true → kind ≡ own
same_kind_exact Read Read e = refl
same_kind_exact Read Write e = absurd (cc)
same_kind_exact Write Read e = absurd (cc)
same_kind_exact Write Write e = refl

pub same_kind_itself : (kind : Kind) → same_kind kind kind ≡ true
same_kind_itself Read = refl
same_kind_itself Write = refl

pub same_key_exact : (key own : Key) → same_key key own ≡ true → key ≡ own
same_key_exact key own e =
    let kind = both _ _ e in
    let page = both _ _ kind.0 in
    let gscid = both _ _ page.0 in
    let pscid = both _ _ gscid.0 in
    λ i. record {
      did = same_did_exact key.did own.did pscid.0 i;
      pscid = same_id_exact key.pscid own.pscid pscid.1 i;
      gscid = same_id_exact key.gscid own.gscid gscid.1 i;
      page = same_did_exact key.page own.page page.1 i;
      kind = same_kind_exact key.kind own.kind kind.1 i;
    }

pub same_key_itself : (key : Key) → same_key key key ≡ true
same_key_itself key =
    each_true _ _ (each_true _ _ (each_true _ _ (each_true _ _ (same_did_itself key.did) (same_id_itself key.pscid)) (same_id_itself key.gscid))
    (same_did_itself key.page)) (same_kind_itself key.kind)
