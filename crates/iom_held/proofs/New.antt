-- The entries of a list that aren't there.
use Rattle.std.proofs.Common.{◌≡◌, ◌∙◌, ◌++◌, ◌+◌, ◌<◌, ◌↔◌, ℕ, true, List, [], ◌∷◌, Option, Some, None, get_or, length, take, refl, sym, ap, subst, inl, inr}
use Rattle.std.specs.Prelude.{IfNone, IfSome, is_some, slice_get}
use Rattle.std.proofs.lemmas.List.{take_more}
use Rattle.iom_choices.specs.Systems.{IsAmong}
use Rattle.iom_choices.proofs.Lists.{among-left, among-right, among_at, among_either}
use Rattle.iom_every.specs.declared.entry.Entry.{Entry}
use Rattle.iom_held.specs.Kept.{AreNew, entries_in, entry_of}
use Rattle.iom_held.specs.Tags.{tag_of}
use Rattle.iom_held.specs.declared.kept.Kept.{Kept}
use Rattle.iom_held.specs.declared.tags.Tag.{Tag}
use Rattle.iom_held.proofs.Lists.{IsFrom, among_both, among_of, from_among}

-- one more, that is there
there : (entries news : List Entry) (held : List Kept) (entry : Entry) → AreNew entries held news → IsAmong (entries_in held) entry → AreNew (entries ++ entry ∷ []) held news
there entries news held entry new here = record {
  each = λ one h. (among-left entries (entry ∷ []) one (new.each one h).0, (new.each one h).1);
  all = λ one h. elim (among_either entries (entry ∷ []) one h) [
    | inl old ↦ new.all one old
    | inr last ↦ elim last [
      | inl same ↦ inl (subst (IsAmong (entries_in held)) same here)
      | inr none ↦ absurd none
    ]
  ];
}

-- and one that isn't
missing : (entries news : List Entry) (held : List Kept) (entry : Entry) → AreNew entries held news → (IsAmong (entries_in held) entry → ⊥) → AreNew (entries ++ entry ∷ []) held (news ++ entry ∷ [])
missing entries news held entry new other = record {
  each = λ one h. elim (among_either news (entry ∷ []) one h) [
    | inl old ↦ (among-left entries (entry ∷ []) one (new.each one old).0, (new.each one old).1)
    | inr last ↦ (
      among-right entries (entry ∷ []) one last,
      λ here. elim last [
        | inl same ↦ other (subst (IsAmong (entries_in held)) (sym same) here)
        | inr none ↦ none
      ],
    )
  ];
  all = λ one h. elim (among_either entries (entry ∷ []) one h) [
    | inl old ↦ elim (new.all one old) [
      | inl held ↦ inl held
      | inr put ↦ inr (among-left news (entry ∷ []) one put)
    ]
    | inr last ↦ inr (among-right news (entry ∷ []) one last)
  ];
}

module _ (entries news : List Entry) (held : List Kept) (i : ℕ) (entry : Entry) (inside : i < length entries) (is : entry ≡ get_or entries i entry) (new : AreNew (take i entries) held news) where
  again : take i entries ++ entry ∷ [] ≡ take (i + 1) entries
  again = sym (take_more entries i entry inside ∙ ap (λ (e : Entry). take i entries ++ e ∷ []) (sym is))

  pub there_next : IsAmong (entries_in held) entry → AreNew (take (i + 1) entries) held news
  there_next here = subst (λ (all : List Entry). AreNew all held news) again (there (take i entries) news held entry new here)

  pub missing_next : (after : List Entry) → after ≡ news ++ entry ∷ [] → (IsAmong (entries_in held) entry → ⊥) → AreNew (take (i + 1) entries) held after
  missing_next after put other =
      subst (λ (all : List Entry). AreNew all held after) again
      (subst (λ (news : List Entry). AreNew (take i entries ++ entry ∷ []) held news) (sym put) (missing (take i entries) news held entry new other))

-- those with its tag tell whether an entry is there
module _ (all some : List Kept) (entry : Entry) (tag : Tag) (own : tag ≡ tag_of entry) (among : (kept : Kept) → IsAmong some kept → IsAmong all kept)
    (each : (kept : Kept) → IsAmong all kept → tag_of kept.entry ≡ tag → IsAmong some kept) where
  tagged : IsAmong (entries_in all) entry → IsAmong (entries_in some) entry
  tagged h =
      let f : IsFrom entry_of all entry = from_among entry_of all entry h in
      subst (IsAmong (entries_in some)) f.is (among_of entry_of some f.thing (each f.thing f.among (ap tag_of f.is ∙ sym own)))

  pub has_by : (place : Option ℕ) → IfSome place (λ i. slice_get (entries_in some) i ≡ Some entry) → IfNone place (IsAmong (entries_in some) entry → ⊥) →
      is_some place ≡ true ↔ IsAmong (entries_in all) entry
  has_by None found none = (λ h. absurd (cc), λ h. absurd (none (tagged h)))
  has_by (Some i) found none = (λ h. among_both entry_of some all among entry (among_at (entries_in some) i entry found), λ h. refl)
