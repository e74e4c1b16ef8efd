-- Lists of candidates of which none covers another.
use Rattle.std.proofs.Common.{◌≡◌, ◌∙◌, ◌++◌, ◌<◌, ◌⊎◌, ℕ, zero, suc, Bool, true, false, List, [], ◌∷◌, drop, length, take, refl, sym, ap, subst, inl, inr, arith}
use Rattle.std.specs.Bool.{OnFalse}
use Rattle.std.specs.Prelude.{get_or}
use Rattle.iom_choices.specs.Systems.{IsAmong}
use Rattle.iom_choices.proofs.Lists.{among-left, among-right, among_either, each_append, each_of}
use Rattle.iom_judge.proofs.Each.{each_at}
use Rattle.iom_judge.specs.Candidates.{AreApart, CandidateView, IsCovered}
use Rattle.iom_judge.specs.Covering.{CoversNone, HasNew, IsCoveredIn, IsThinned, NoneCovers}
use Rattle.iom_judge.proofs.Thinned.{covered_self, covered_then}

abbrev Apart : CandidateView → CandidateView → Type 0
Apart one other = (IsCovered one other → ⊥) × (IsCovered other one → ⊥)

pub apart_push : (all : List CandidateView) (one : CandidateView) → AreApart all → NoneCovers all one → CoversNone all one → AreApart (all ++ one ∷ [])
apart_push [] one apart none covers = (tt, tt)
apart_push (first ∷ all) one apart none covers =
    (each_append (Apart first) all (one ∷ []) apart.0 ((covers.0, none.0), tt), apart_push all one apart.1 none.1 covers.1)

pub among_out : {X : Type 0} (all : List X) (i : ℕ) (x : X) → IsAmong (take i all ++ drop (suc i) all) x → IsAmong all x
among_out [] zero x h = absurd h
among_out [] (suc i) x h = absurd h
among_out (y ∷ all) zero x h = inr h
among_out (y ∷ all) (suc i) x (inl same) = inl same
among_out (y ∷ all) (suc i) x (inr h) = inr (among_out all i x h)

pub out_or : {X : Type 0} (all : List X) (i : ℕ) (out x : X) → i < length all → out ≡ get_or all i out → IsAmong all x → IsAmong (take i all ++ drop (suc i) all) x ⊎ (x ≡ out)
out_or [] i out x inside is h = absurd h
out_or (y ∷ all) zero out x inside is (inl same) = inr (sym same ∙ sym is)
out_or (y ∷ all) zero out x inside is (inr h) = inl h
out_or (y ∷ all) (suc i) out x inside is (inl same) = inl (inl same)
out_or (y ∷ all) (suc i) out x inside is (inr h) = elim (out_or all i out x (omega (arith, inside)) is h) [
  | inl left ↦ inl (inr left)
  | inr same ↦ inr same
]

pub apart_out : (all : List CandidateView) (i : ℕ) → AreApart all → AreApart (take i all ++ drop (suc i) all)
apart_out [] zero apart = tt
apart_out [] (suc i) apart = tt
apart_out (one ∷ all) zero apart = apart.1
apart_out (one ∷ all) (suc i) apart =
    (each_of (Apart one) (take i all ++ drop (suc i) all) (λ other h. each_at (Apart one) all other apart.0 (among_out all i other h)), apart_out all i apart.1)

pub take_out : {X : Type 0} (all : List X) (i : ℕ) → take i (take i all ++ drop (suc i) all) ≡ take i all
take_out [] zero = refl
take_out [] (suc i) = refl
take_out (x ∷ all) zero = refl
take_out (x ∷ all) (suc i) = ap (λ (rest : List _). x ∷ rest) (take_out all i)

-- one more, in place of those that it covers
pub put_in_place : (before left : List CandidateView) (one : CandidateView) → ((each : CandidateView) → IsAmong left each → IsAmong before each) →
    ((each : CandidateView) → IsAmong before each → IsAmong left each ⊎ IsCovered each one) → IsThinned (before ++ one ∷ []) (left ++ one ∷ [])
put_in_place before left one within enough = record {
  within = λ each h. elim (among_either left (one ∷ []) each h) [
    | inl here ↦ among-left before (one ∷ []) each (within each here)
    | inr own ↦ among-right before (one ∷ []) each own
  ];
  enough = λ each h. elim (among_either before (one ∷ []) each h) [
    | inl old ↦ elim (enough each old) [
      | inl here ↦ record { other = each; among = among-left left (one ∷ []) each here; is = covered_self each }
      | inr covered ↦ record { other = one; among = among-right left (one ∷ []) one (inl refl); is = covered }
    ]
    | inr own ↦ record { other = each; among = among-right left (one ∷ []) each own; is = covered_self each }
  ];
}

-- one that is covered adds nothing
pub left_out : (all : List CandidateView) (one : CandidateView) → IsCoveredIn all one → IsThinned (all ++ one ∷ []) all
left_out all one covered = record {
  within = λ each h. among-left all (one ∷ []) each h;
  enough = λ each h. elim (among_either all (one ∷ []) each h) [
    | inl here ↦ record { other = each; among = here; is = covered_self each }
    | inr own ↦ elim own [
      | inl same ↦ subst (IsCoveredIn all) same covered
      | inr none ↦ absurd none
    ]
  ];
}

pub out_next : (all start new : List CandidateView) (i : ℕ) (out one : CandidateView) → new ≡ take i all ++ drop (suc i) all → i < length all → out ≡ get_or all i out → IsCovered out one → AreApart all →
    ((each : CandidateView) → IsAmong all each → IsAmong start each) → ((each : CandidateView) → IsAmong start each → IsAmong all each ⊎ IsCovered each one) → CoversNone (take i all) one →
    AreApart new × ((each : CandidateView) → IsAmong new each → IsAmong start each)
    × ((each : CandidateView) → IsAmong start each → IsAmong new each ⊎ IsCovered each one) × CoversNone (take i new) one
out_next all start new i out one made inside is covered apart within enough none = (
  subst AreApart (sym made) (apart_out all i apart),
  λ each h. within each (among_out all i each (subst (λ (list : List CandidateView). IsAmong list each) made h)),
  λ each h. elim (enough each h) [
    | inl here ↦ elim (out_or all i out each inside is here) [
      | inl left ↦ inl (subst (λ (list : List CandidateView). IsAmong list each) (sym made) left)
      | inr same ↦ inr (subst (λ (each : CandidateView). IsCovered each one) (sym same) covered)
    ]
    | inr other ↦ inr other
  ],
  subst (λ (list : List CandidateView). CoversNone list one) (sym (ap (take i) made ∙ take_out all i)) none,
)

pub none_left : (before left : List CandidateView) (one : CandidateView) → ((each : CandidateView) → IsAmong left each → IsAmong before each) → NoneCovers before one → NoneCovers left one
none_left before left one within none =
    each_of (λ (other : CandidateView). IsCovered one other → ⊥) left (λ other h. each_at (λ (other : CandidateView). IsCovered one other → ⊥) before other none (within other h))

through : (all mid rest final : List CandidateView) (one : CandidateView) → IsThinned (all ++ one ∷ []) mid → IsThinned (mid ++ rest) final → (each : CandidateView) → IsAmong (all ++ one ∷ []) each → IsCoveredIn final each
through all mid rest final one put thinned each h =
    let a : IsCoveredIn mid each = put.enough each h in
    let b : IsCoveredIn final a.other = thinned.enough a.other (among-left mid rest a.other a.among) in
    record { other = b.other; among = b.among; is = covered_then each a.other b.other a.is b.is }

-- one of those to come is put in
pub merged_next : (all mid news rest final : List CandidateView) (one : CandidateView) → news ≡ rest ++ one ∷ [] → IsThinned (all ++ one ∷ []) mid → IsThinned (mid ++ rest) final → IsThinned (all ++ news) final
merged_next all mid news rest final one popped put thinned = record {
  within = λ each h. elim (among_either mid rest each (thinned.within each h)) [
    | inl here ↦ elim (among_either all (one ∷ []) each (put.within each here)) [
      | inl old ↦ among-left all news each old
      | inr own ↦ among-right all news each (subst (λ (list : List CandidateView). IsAmong list each) (sym popped) (among-right rest (one ∷ []) each own))
    ]
    | inr later ↦ among-right all news each (subst (λ (list : List CandidateView). IsAmong list each) (sym popped) (among-left rest (one ∷ []) each later))
  ];
  enough = λ each h. elim (among_either all news each h) [
    | inl old ↦ through all mid rest final one put thinned each (among-left all (one ∷ []) each old)
    | inr new ↦ elim (among_either rest (one ∷ []) each (subst (λ (list : List CandidateView). IsAmong list each) popped new)) [
      | inl later ↦ thinned.enough each (among-right mid rest each later)
      | inr own ↦ through all mid rest final one put thinned each (among-right all (one ∷ []) each own)
    ]
  ];
}

pub on_false : (b : Bool) (P Q : Type 0) → (P → Q) → OnFalse b P → OnFalse b Q
on_false true P Q then h = tt
on_false false P Q then h = then h

-- each of these is covered there
abbrev pub EachCovered : List CandidateView → List CandidateView → Type 0
EachCovered before after = (each : CandidateView) → IsAmong before each → IsCoveredIn after each

pub covered_all : (all : List CandidateView) → EachCovered all all
covered_all all each h = record { other = each; among = h; is = covered_self each }

pub covered_more : (before all mid : List CandidateView) (one : CandidateView) → EachCovered before all → IsThinned (all ++ one ∷ []) mid → EachCovered before mid
covered_more before all mid one covered put each h =
    let a : IsCoveredIn all each = covered each h in
    let b : IsCoveredIn mid a.other = put.enough a.other (among-left all (one ∷ []) a.other a.among) in
    record { other = b.other; among = b.among; is = covered_then each a.other b.other a.is b.is }

-- one that was put in is new, or another that covers it
pub new_put : (before all mid : List CandidateView) (one : CandidateView) → EachCovered before all → IsThinned (all ++ one ∷ []) mid → NoneCovers all one → HasNew before mid
new_put before all mid one covered put none =
    let c : IsCoveredIn mid one = put.enough one (among-right all (one ∷ []) one (inl refl)) in
    record {
      one = c.other;
      among = c.among;
      none = each_of (λ (other : CandidateView). IsCovered c.other other → ⊥) before (λ other h k.
          let a : IsCoveredIn all other = covered other h in
          each_at (λ (other : CandidateView). IsCovered one other → ⊥) all a.other none a.among
          (covered_then one c.other a.other c.is (covered_then c.other other a.other k a.is)));
    }
