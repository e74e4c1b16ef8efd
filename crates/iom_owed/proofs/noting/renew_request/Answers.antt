use Rattle.std.proofs.Common.{◌≡◌, ℕ, Bool, true, false, if◌then◌else◌, List, ◌∷◌, [], rules, refl, sym, ap, subst}
use Rattle.iom_bits.specs.declared.causes.Kind.TheVariants.{Read, Write}
use Rattle.indexmap.specs.IndexMap.{insert_entry}
use Rattle.iom_core.specs.declared.access.Request.{Request}
use Rattle.iom_held.specs.Kept.{Renews}
use Rattle.iom_owed.specs.Holdings.{request_of}
use Rattle.iom_owed.specs.Keys.{made_at, made_in, request_at}
use Rattle.iom_owed.specs.Notes.{made_of}
use Rattle.iom_owed.specs.declared.noting.RequestKey.{RequestKey}
use Rattle.iom_owed.specs.contracts.noting.RequestKeyPartialEq.TheImpl as key_eq
use Rattle.iom_owed.proofs.Numbers.{renews_inserted}
use Rattle.iom_owed.proofs.Results.{ok_on}
use Rattle.iom_owed.proofs.noting.renew_request.Goals as goal

same : (x y : RequestKey) → (key_eq.ghosts).eq x y ≡ true → x ≡ y
same x y is = search rules

same_kind : (a b : Bool) → (if a then Write else Read) ≡ (if b then Write else Read) → a ≡ b
same_kind true true is = refl
same_kind true false is = absurd (cc)
same_kind false true is = absurd (cc)
same_kind false false is = refl

all : (x y : RequestKey) → request_at x ≡ request_at y → (key_eq.ghosts).eq x y ≡ true
all x y is =
    let did : x.did ≡ y.did = ap (λ (request : Request). request.did) is in
    let iova : x.iova ≡ y.iova = ap (λ (request : Request). request.iova) is in
    let writes : x.writes ≡ y.writes = same_kind x.writes y.writes (ap (λ (request : Request). request.kind) is) in
    search rules

pub returns : goal.returns
returns c =
    let before : List (RequestKey × ℕ) = c.args.numbers.now.entries in
    let entries : c.insert.new.self.entries ≡ insert_entry (key_eq.ghosts).eq before c.key_of.result c.args.number =
    ok_on _ _ (c.insert.ensures.succeeds c.requires.room) c.insert.ensures.entries in
    subst (λ (request : Request). Renews request_of (made_of c.args.number request ∷ []) (made_in before) (made_in c.insert.new.self.entries)) c.key_of.ensures
    (subst (λ (after : List (RequestKey × ℕ)). Renews request_of (made_at (c.key_of.result, c.args.number) ∷ []) (made_in before) (made_in after)) (sym entries)
    (renews_inserted (key_eq.ghosts).eq same all before c.key_of.result c.args.number))
