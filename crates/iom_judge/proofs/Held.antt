-- What can be held behind a step, as the system has it.
use Rattle.std.proofs.Common.{◌≡◌, ◌∙◌, ◌++◌, ◌||◌, not, Bool, true, false, List, [], ◌∷◌, map, Option, None, refl, sym, ap, subst, inl, inr}
use Rattle.std.specs.Option.{is_none}
use Rattle.std.specs.Prelude.{filter, ℕ}
use Rattle.iom_choices.specs.Systems.{IsAmong}
use Rattle.iom_choices.proofs.Lists.{IsPassed, among-left, among-right, among_either, passed}
use Rattle.iom_choices.proofs.Trees.{among_filter}
use Rattle.iom_every.specs.Making.{is_leaf_of_stage}
use Rattle.iom_every.specs.declared.entry.Entry.{Entry}
use Rattle.iom_held.specs.Kept.{AddsDue, HasNoneTwice, Renews, due_of, entries_in, entry_of, is_spared, kept_of, may_lend}
use Rattle.iom_held.specs.declared.kept.Kept.{Kept}
use Rattle.iom_held.proofs.Lists.{IsFrom, among_of, from_among, one_of}
use Rattle.iom_owed.proofs.Followed.{news_are, news_is}
use Rattle.iom_ways.specs.Ways.{AreAdded}

-- each entry of one list is one of the other's
pub record AreSame {X : Type 0} (some all : List X) : Type 0 where
  pub within : (x : X) → IsAmong some x → IsAmong all x
  pub enough : (x : X) → IsAmong all x → IsAmong some x

pub same_self : {X : Type 0} (xs : List X) → AreSame xs xs
same_self xs = record { within = λ x h. h; enough = λ x h. h }

pub same_back : {X : Type 0} (xs ys : List X) → AreSame xs ys → AreSame ys xs
same_back xs ys same = record { within = same.enough; enough = same.within }

pub same_then : {X : Type 0} (xs ys zs : List X) → AreSame xs ys → AreSame ys zs → AreSame xs zs
same_then xs ys zs first second = record { within = λ x h. second.within x (first.within x h); enough = λ x h. first.enough x (second.enough x h) }

pub same_both : {X : Type 0} (xs ys some more : List X) → AreSame xs some → AreSame ys more → AreSame (xs ++ ys) (some ++ more)
same_both xs ys some more first second = record {
  within = λ x h. elim (among_either xs ys x h) [
    | inl here ↦ among-left some more x (first.within x here)
    | inr there ↦ among-right some more x (second.within x there)
  ];
  enough = λ x h. elim (among_either some more x h) [
    | inl here ↦ among-left xs ys x (first.enough x here)
    | inr there ↦ among-right xs ys x (second.enough x there)
  ];
}

-- what was added, and what is there then
pub added_is : {X : Type 0} (news before after : List X) → AreSame after (before ++ news) → AreAdded news before after
added_is news before after same = λ x. (
  λ h. among_either before news x (same.within x h),
  λ h. same.enough x (elim h [
    | inl old ↦ among-left before news x old
    | inr new ↦ among-right before news x new
  ]),
)

pub is_added : {X : Type 0} (news before after : List X) → AreAdded news before after → AreSame after (before ++ news)
is_added news before after added = record {
  within = λ x h. elim ((added x).0 h) [
    | inl old ↦ among-left before news x old
    | inr new ↦ among-right before news x new
  ];
  enough = λ x h. (added x).1 (among_either before news x h);
}

-- what is held once a step's reads are put in
pub mid_held : (number : ℕ) (reads : List Entry) (before mid : List Kept) → Renews entry_of (map (kept_of number) reads) before mid → AreSame (entries_in mid) (entries_in before ++ reads)
mid_held number reads before mid adds =
    let news : entries_in (map (kept_of number) reads) ≡ reads = news_are number reads in
    record {
      within = λ entry h. elim (adds.all entry h) [
        | inl old ↦ among-left (entries_in before) reads entry old
        | inr new ↦ among-right (entries_in before) reads entry (subst (λ (xs : List Entry). IsAmong xs entry) news new)
      ];
      enough = λ entry h. adds.kept entry (elim (among_either (entries_in before) reads entry h) [
        | inl old ↦ inl old
        | inr new ↦ inr (subst (λ (xs : List Entry). IsAmong xs entry) (sym news) new)
      ]);
    }

spared_entry : (kept : List Kept) (entry : Entry) → IsAmong (entries_in (filter is_spared kept)) entry → IsFrom entry_of (filter is_spared kept) entry
spared_entry kept entry h = from_among entry_of (filter is_spared kept) entry h

spared_is : (number : Option ℕ) → number ≡ None → is_none number ≡ true
spared_is number none = rw none refl

-- and what of that outlasts the next fence
pub mid_spared : (number : ℕ) (reads : List Entry) (before mid : List Kept) → Renews entry_of (map (kept_of number) reads) before mid → HasNoneTwice (entries_in before) →
    AreSame (entries_in (filter is_spared mid)) (entries_in (filter is_spared before) ++ reads)
mid_spared number reads before mid adds once =
    let news : entries_in (map (kept_of number) reads) ≡ reads = news_are number reads in
    record {
      within = λ entry h.
          let f : IsFrom entry_of (filter is_spared mid) entry = spared_entry mid entry h in
          let p : IsPassed is_spared mid f.thing = passed is_spared mid f.thing f.among in
          subst (IsAmong (entries_in (filter is_spared before) ++ reads)) f.is (elim (adds.each once f.thing p.among) [
            | inl new ↦ among-right (entries_in (filter is_spared before)) reads f.thing.entry (news_is number reads f.thing new).0
            | inr old ↦ among-left (entries_in (filter is_spared before)) reads f.thing.entry (among_of entry_of (filter is_spared before) f.thing (among_filter is_spared before f.thing old.0 p.passes))
          ]);
      enough = λ entry h. elim (among_either (entries_in (filter is_spared before)) reads entry h) [
        | inl old ↦
            let f : IsFrom entry_of (filter is_spared before) entry = spared_entry before entry old in
            let p : IsPassed is_spared before f.thing = passed is_spared before f.thing f.among in
            let g : IsFrom entry_of mid entry = from_among entry_of mid entry (adds.kept entry (inl (subst (IsAmong (entries_in before)) f.is (among_of entry_of before f.thing p.among)))) in
            let passes : is_spared g.thing ≡ true = elim (adds.each once g.thing g.among) [
              | inl new ↦ ap is_spared (news_is number reads g.thing new).1
              | inr other ↦ ap is_spared (one_of entry_of before g.thing f.thing once other.0 p.among (g.is ∙ sym f.is)) ∙ p.passes
            ] in
            subst (IsAmong (entries_in (filter is_spared mid))) g.is (among_of entry_of (filter is_spared mid) g.thing (among_filter is_spared mid g.thing g.among passes))
        | inr new ↦
            let g : IsFrom entry_of mid entry = from_among entry_of mid entry (adds.kept entry (inr (subst (λ (xs : List Entry). IsAmong xs entry) (sym news) new))) in
            let passes : is_spared g.thing ≡ true = elim (adds.each once g.thing g.among) [
              | inl read ↦ ap is_spared (news_is number reads g.thing read).1
              | inr other ↦ absurd (other.1 (subst (λ (xs : List Entry). IsAmong xs g.thing.entry) (sym news) (subst (IsAmong reads) (sym g.is) new)))
            ] in
            subst (IsAmong (entries_in (filter is_spared mid))) g.is (among_of entry_of (filter is_spared mid) g.thing (among_filter is_spared mid g.thing g.among passes))
      ];
    }

-- what is put in so that the next fence takes it out
due_are : (number : ℕ) (news : List Entry) → entries_in (map (due_of number) news) ≡ news
due_are number [] = refl
due_are number (entry ∷ news) = ap (λ (rest : List Entry). entry ∷ rest) (due_are number news)

due_not : (number : ℕ) (news : List Entry) (kept : Kept) → IsAmong (map (due_of number) news) kept → is_spared kept ≡ true → ⊥
due_not number [] kept h spared = h
due_not number (entry ∷ news) kept (inl same) spared = let on : is_spared (due_of number entry) ≡ true = ap is_spared same ∙ spared in absurd (cc)
due_not number (entry ∷ news) kept (inr h) spared = due_not number news kept h spared

pub due_held : (number : ℕ) (entries : List Entry) (before after : List Kept) → AddsDue number entries before after → AreSame (entries_in after) (entries_in before ++ entries)
due_held number entries before after a =
    let news : entries_in (map (due_of number) a.news) ≡ a.news = due_are number a.news in
    record {
      within = λ entry h. elim (a.put.all entry h) [
        | inl old ↦ among-left (entries_in before) entries entry old
        | inr new ↦ among-right (entries_in before) entries entry (a.are.each entry (subst (λ (xs : List Entry). IsAmong xs entry) news new)).0
      ];
      enough = λ entry h. elim (among_either (entries_in before) entries entry h) [
        | inl old ↦ a.put.kept entry (inl old)
        | inr own ↦ elim (a.are.all entry own) [
          | inl old ↦ a.put.kept entry (inl old)
          | inr new ↦ a.put.kept entry (inr (subst (λ (xs : List Entry). IsAmong xs entry) (sym news) new))
        ]
      ];
    }

pub due_spared : (number : ℕ) (entries : List Entry) (before after : List Kept) → AddsDue number entries before after → HasNoneTwice (entries_in before) →
    AreSame (entries_in (filter is_spared after)) (entries_in (filter is_spared before))
due_spared number entries before after a once =
    let news : entries_in (map (due_of number) a.news) ≡ a.news = due_are number a.news in
    record {
      within = λ entry h.
          let f : IsFrom entry_of (filter is_spared after) entry = spared_entry after entry h in
          let p : IsPassed is_spared after f.thing = passed is_spared after f.thing f.among in
          subst (IsAmong (entries_in (filter is_spared before))) f.is (elim (a.put.each once f.thing p.among) [
            | inl new ↦ absurd (due_not number a.news f.thing new p.passes)
            | inr old ↦ among_of entry_of (filter is_spared before) f.thing (among_filter is_spared before f.thing old.0 p.passes)
          ]);
      enough = λ entry h.
          let f : IsFrom entry_of (filter is_spared before) entry = spared_entry before entry h in
          let p : IsPassed is_spared before f.thing = passed is_spared before f.thing f.among in
          let own : IsAmong (entries_in before) entry = subst (IsAmong (entries_in before)) f.is (among_of entry_of before f.thing p.among) in
          let g : IsFrom entry_of after entry = from_among entry_of after entry (a.put.kept entry (inl own)) in
          let passes : is_spared g.thing ≡ true = elim (a.put.each once g.thing g.among) [
            | inl new ↦ absurd ((a.are.each entry (subst (IsAmong a.news) g.is
                (subst (λ (xs : List Entry). IsAmong xs g.thing.entry) news (among_of entry_of (map (due_of number) a.news) g.thing new)))).1 own)
            | inr other ↦ ap is_spared (one_of entry_of before g.thing f.thing once other.0 p.among (g.is ∙ sym f.is)) ∙ p.passes
          ] in
          subst (IsAmong (entries_in (filter is_spared after))) g.is (among_of entry_of (filter is_spared after) g.thing (among_filter is_spared after g.thing g.among passes));
    }

or_none : (b : Bool) → (b || false) ≡ b
or_none true = refl
or_none false = refl

or_any : (a b : Bool) → b ≡ true → (a || b) ≡ true
or_any true b is = refl
or_any false b is = is

-- those that may lend, as the system has them
pub lasting_are : (held : List Kept) → AreSame (entries_in (filter may_lend held))
    (filter (λ entry. not (is_leaf_of_stage entry)) (entries_in held) ++ filter is_leaf_of_stage (entries_in (filter is_spared held)))
lasting_are held =
    let others : List Entry = filter (λ entry. not (is_leaf_of_stage entry)) (entries_in held) in
    let leaves : List Entry = filter is_leaf_of_stage (entries_in (filter is_spared held)) in
    record {
      within = λ entry h.
          let f : IsFrom entry_of (filter may_lend held) entry = from_among entry_of (filter may_lend held) entry h in
          let p : IsPassed may_lend held f.thing = passed may_lend held f.thing f.among in
          let Goal : Bool → Type 0 = λ b. is_leaf_of_stage f.thing.entry ≡ b → (is_spared f.thing || not b) ≡ true → IsAmong (others ++ leaves) f.thing.entry in
          let by_kind : (b : Bool) → Goal b = λ b. elim b as Goal [
            | true ↦ λ is lends. among-right others leaves f.thing.entry (among_filter is_leaf_of_stage (entries_in (filter is_spared held)) f.thing.entry
                (among_of entry_of (filter is_spared held) f.thing (among_filter is_spared held f.thing p.among (sym (or_none (is_spared f.thing)) ∙ lends))) is)
            | false ↦ λ is lends. among-left others leaves f.thing.entry (among_filter (λ entry. not (is_leaf_of_stage entry)) (entries_in held) f.thing.entry
                (among_of entry_of held f.thing p.among) (ap not is))
          ] in
          subst (IsAmong (others ++ leaves)) f.is (by_kind (is_leaf_of_stage f.thing.entry) refl p.passes);
      enough = λ entry h. elim (among_either others leaves entry h) [
        | inl other ↦
            let p : IsPassed (λ entry. not (is_leaf_of_stage entry)) (entries_in held) entry = passed (λ entry. not (is_leaf_of_stage entry)) (entries_in held) entry other in
            let f : IsFrom entry_of held entry = from_among entry_of held entry p.among in
            let lends : may_lend f.thing ≡ true = or_any (is_spared f.thing) (not (is_leaf_of_stage f.thing.entry)) (ap (λ (e : Entry). not (is_leaf_of_stage e)) f.is ∙ p.passes) in
            subst (IsAmong (entries_in (filter may_lend held))) f.is (among_of entry_of (filter may_lend held) f.thing (among_filter may_lend held f.thing f.among lends))
        | inr leaf ↦
            let p : IsPassed is_leaf_of_stage (entries_in (filter is_spared held)) entry = passed is_leaf_of_stage (entries_in (filter is_spared held)) entry leaf in
            let f : IsFrom entry_of (filter is_spared held) entry = spared_entry held entry p.among in
            let q : IsPassed is_spared held f.thing = passed is_spared held f.thing f.among in
            let lends : may_lend f.thing ≡ true = ap (λ (b : Bool). b || not (is_leaf_of_stage f.thing.entry)) q.passes in
            subst (IsAmong (entries_in (filter may_lend held))) f.is (among_of entry_of (filter may_lend held) f.thing (among_filter may_lend held f.thing q.among lends))
      ];
    }
