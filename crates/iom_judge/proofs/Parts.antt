-- What a step reads, put in as one or in parts, as the system has it.
use Rattle.std.proofs.Common.{◌≡◌, ◌∙◌, ◌++◌, not, Bool, true, false, List, [], ◌∷◌, map, refl, sym, ap, subst, inl, inr}
use Rattle.std.specs.List.{AllByRecursion}
use Rattle.std.proofs.lemmas.List.{map-append}
use Rattle.std.specs.Prelude.{filter, flat_map}
use Rattle.iom_bits.specs.Features.{Features}
use Rattle.iom_choices.specs.Systems.{IsAmong}
use Rattle.iom_choices.proofs.Lists.{IsPassed, among-left, among-right, among_either, filter_all, passed}
use Rattle.iom_choices.proofs.Traces.{IsImage, image_of}
use Rattle.iom_choices.proofs.Trees.{among_filter}
use Rattle.iom_core.specs.Rows.{bare}
use Rattle.iom_core.specs.State.{State}
use Rattle.iom_core.specs.Table.{request_of_step}
use Rattle.iom_core.specs.declared.step.Step.{Step}
use Rattle.iom_every.proofs.Split.{IsFlatFrom, flat_from, flat_to}
use Rattle.iom_every.specs.Entries.{kept_as, split}
use Rattle.iom_every.specs.Making.{is_whole}
use Rattle.iom_every.specs.declared.entry.Entry.{Entry}
use Rattle.iom_every.specs.declared.entry.Entry.TheVariants.{Directory as OfDirectory, Device as OfDevice, First as OfFirst, Second as OfSecond, File as OfFile, Page as OfPage}
use Rattle.iom_held.specs.Kept.{AddsDue, Renews, entries_in, entry_of, is_spared, kept_of, may_lend}
use Rattle.iom_held.specs.declared.kept.Kept.{Kept}
use Rattle.iom_held.proofs.Lists.{among_both}
use Rattle.iom_held.proofs.Places.{renews_both}
use Rattle.iom_judge.specs.Behind.{HasRead, forms_over, fresh_over, reads_over}
use Rattle.iom_judge.proofs.Held.{AreSame, added_is, due_held, due_spared, is_added, mid_held, mid_spared, same_back, same_both, same_self, same_then}
use Rattle.iom_judge.proofs.Left.{same_filtered, same_left}
use Rattle.iom_judge.proofs.More.{forms_more}
use Rattle.iom_ways.specs.Ways.{AreAdded}

-- an entry and its forms are whole translations, or none of them is
form_whole : (features : Features) (entry form : Entry) → IsAmong (kept_as features entry) form → is_whole form ≡ is_whole entry
form_whole features (OfFirst gscid pscid held) form h =
    let m : IsImage (OfFirst gscid pscid) (split features held) form = image_of (OfFirst gscid pscid) (split features held) form h in ap is_whole (sym m.is)
form_whole features (OfSecond gscid held) form h =
    let m : IsImage (OfSecond gscid) (split features held) form = image_of (OfSecond gscid) (split features held) form h in ap is_whole (sym m.is)
form_whole features (OfDirectory level part word) form (inl same) = ap is_whole (sym same)
form_whole features (OfDirectory level part word) form (inr none) = absurd none
form_whole features (OfDevice did said) form (inl same) = ap is_whole (sym same)
form_whole features (OfDevice did said) form (inr none) = absurd none
form_whole features (OfFile gscid page word) form (inl same) = ap is_whole (sym same)
form_whole features (OfFile gscid page word) form (inr none) = absurd none
form_whole features (OfPage key hit) form (inl same) = ap is_whole (sym same)
form_whole features (OfPage key hit) form (inr none) = absurd none

-- a whole translation has no other form
whole_alone : (features : Features) (entry : Entry) → is_whole entry ≡ true → kept_as features entry ≡ entry ∷ []
whole_alone features (OfFirst gscid pscid held) whole = absurd (cc)
whole_alone features (OfSecond gscid held) whole = absurd (cc)
whole_alone features (OfDirectory level part word) whole = absurd (cc)
whole_alone features (OfDevice did said) whole = absurd (cc)
whole_alone features (OfFile gscid page word) whole = absurd (cc)
whole_alone features (OfPage key hit) whole = refl

-- the forms of all but whole translations
other_forms : (features : Features) (xs : List Entry) →
    AreSame (flat_map (kept_as features) (filter (λ entry. not (is_whole entry)) xs)) (filter (λ entry. not (is_whole entry)) (flat_map (kept_as features) xs))
other_forms features xs =
    let forms : Entry → List Entry = kept_as features in
    let test : Entry → Bool = λ entry. not (is_whole entry) in
    record {
      within = λ form h.
          let f : IsFlatFrom forms (filter test xs) form = flat_from forms (filter test xs) form h in
          let p : IsPassed test xs f.source = passed test xs f.source f.of in
          among_filter test (flat_map forms xs) form (flat_to forms xs f.source form p.among f.among) (ap not (form_whole features f.source form f.among) ∙ p.passes);
      enough = λ form h.
          let p : IsPassed test (flat_map forms xs) form = passed test (flat_map forms xs) form h in
          let f : IsFlatFrom forms xs form = flat_from forms xs form p.among in
          flat_to forms (filter test xs) f.source form (among_filter test xs f.source f.of (ap not (sym (form_whole features f.source form f.among)) ∙ p.passes)) f.among;
    }

whole_forms : (features : Features) (xs : List Entry) → AreSame (filter is_whole xs) (filter is_whole (flat_map (kept_as features) xs))
whole_forms features xs =
    let forms : Entry → List Entry = kept_as features in
    record {
      within = λ entry h.
          let p : IsPassed is_whole xs entry = passed is_whole xs entry h in
          among_filter is_whole (flat_map forms xs) entry
          (flat_to forms xs entry entry p.among (subst (λ (all : List Entry). IsAmong all entry) (sym (whole_alone features entry p.passes)) (inl refl))) p.passes;
      enough = λ form h.
          let p : IsPassed is_whole (flat_map forms xs) form = passed is_whole (flat_map forms xs) form h in
          let f : IsFlatFrom forms xs form = flat_from forms xs form p.among in
          let whole : is_whole f.source ≡ true = sym (form_whole features f.source form f.among) ∙ p.passes in
          elim (subst (λ (all : List Entry). IsAmong all form) (whole_alone features f.source whole) f.among) [
            | inl same ↦ among_filter is_whole xs form (subst (IsAmong xs) same f.of) p.passes
            | inr none ↦ absurd none
          ];
    }

same_flat : {X Y : Type 0} (f : X → List Y) (xs ys : List X) → AreSame xs ys → AreSame (flat_map f xs) (flat_map f ys)
same_flat f xs ys same = record {
  within = λ y h. let k : IsFlatFrom f xs y = flat_from f xs y h in flat_to f ys k.source y (same.within k.source k.of) k.among;
  enough = λ y h. let k : IsFlatFrom f ys y = flat_from f ys y h in flat_to f xs k.source y (same.enough k.source k.of) k.among;
}

-- a list in two parts
same_parts : {X : Type 0} (test : X → Bool) (xs : List X) → AreSame (filter (λ x. not (test x)) xs ++ filter test xs) xs
same_parts {X} test xs = record {
  within = λ x h. elim (among_either (filter (λ x. not (test x)) xs) (filter test xs) x h) [
    | inl other ↦ (passed (λ x. not (test x)) xs x other).among
    | inr own ↦ (passed test xs x own).among
  ];
  enough = λ x h.
      let Goal : Bool → Type 0 = λ b. test x ≡ b → IsAmong (filter (λ x. not (test x)) xs ++ filter test xs) x in
      let by_test : (b : Bool) → Goal b = λ b. elim b as Goal [
        | true ↦ λ is. among-right (filter (λ x. not (test x)) xs) (filter test xs) x (among_filter test xs x h is)
        | false ↦ λ is. among-left (filter (λ x. not (test x)) xs) (filter test xs) x (among_filter (λ x. not (test x)) xs x h (ap not is))
      ] in by_test (test x) refl;
}

-- what is put in where not all may lend, part by part
pub record HasParts (features : Features) (reads lent : List Entry) (before after : List Kept) : Type 0 where
  pub mid : List Kept
  pub fresh : Renews entry_of (map (kept_of 0) (flat_map (kept_as features) (filter (λ entry. not (is_whole entry)) reads) ++ filter is_whole lent)) before mid
  pub due : AddsDue 0 (filter is_whole reads) mid after

pub has_parts : (features : Features) (reads lent : List Entry) (before first mid after : List Kept) →
    Renews entry_of (map (kept_of 0) (flat_map (kept_as features) (filter (λ entry. not (is_whole entry)) reads))) before first →
    Renews entry_of (map (kept_of 0) (filter is_whole lent)) first mid → AddsDue 0 (filter is_whole reads) mid after → HasParts features reads lent before after
has_parts features reads lent before first mid after put wholes due =
    let others : List Entry = flat_map (kept_as features) (filter (λ entry. not (is_whole entry)) reads) in
    record {
      mid = mid;
      fresh = subst (λ (news : List Kept). Renews entry_of news before mid) (sym (map-append (kept_of 0) others (filter is_whole lent)))
          (renews_both entry_of (map (kept_of 0) others) (map (kept_of 0) (filter is_whole lent)) before first mid put wholes);
      due = due;
    }

-- what was gathered where nothing was
gathered_same : {X : Type 0} (news after : List X) → AreAdded news [] after → AreSame after news
gathered_same news after added = is_added news [] after added

module _ (platform : State) (taken : Step) (before : List Kept) where
  abbrev reads : List Entry
  reads = forms_over platform (entries_in before) taken

  abbrev lent : List Entry
  lent = forms_over platform (entries_in (filter may_lend before)) taken

  abbrev fresh : List Entry
  fresh = fresh_over platform before taken

  lenders_within : (entry : Entry) → IsAmong (entries_in (filter may_lend before)) entry → IsAmong (entries_in before) entry
  lenders_within entry h = among_both entry_of (filter may_lend before) before (λ kept h. (passed may_lend before kept h).among) entry h

  fresh_within : (entry : Entry) → IsAmong fresh entry → IsAmong reads entry
  fresh_within entry h = elim (among_either (filter (λ entry. not (is_whole entry)) reads) (filter is_whole lent) entry h) [
    | inl other ↦ (passed (λ entry. not (is_whole entry)) reads entry other).among
    | inr whole ↦ forms_more (bare platform) (entries_in (filter may_lend before)) (entries_in before) lenders_within (request_of_step platform taken) entry
        (passed is_whole lent entry whole).among
  ]

  -- nothing is read
  pub none_read : (added : List Entry) → added ≡ [] → AreAdded (reads_over platform (entries_in before) taken) [] added → HasRead platform taken before before
  none_read added none are =
      let forms : Entry → List Entry = kept_as (bare platform).machine.registers.features in
      let nothing : (entry : Entry) → IsAmong reads entry → ⊥ = λ entry h.
      let f : IsFlatFrom forms (reads_over platform (entries_in before) taken) entry = flat_from forms (reads_over platform (entries_in before) taken) entry h in
      subst (λ (xs : List Entry). IsAmong xs f.source) none ((are f.source).1 (inr f.of)) in
      record {
        holds = λ entry. (
          λ h. inl h,
          λ h. elim h [
            | inl old ↦ old
            | inr new ↦ absurd (nothing entry new)
          ],
        );
        outlasts = λ once entry. (
          λ h. inl h,
          λ h. elim h [
            | inl old ↦ old
            | inr new ↦ absurd (nothing entry (fresh_within entry new))
          ],
        );
        once = λ once. once;
      }

  -- all may lend
  pub all_read : (after : List Kept) → AllByRecursion (λ (kept : Kept). may_lend kept ≡ true) before → Renews entry_of (map (kept_of 0) reads) before after → HasRead platform taken before after
  all_read after lend put =
      let same : lent ≡ reads = ap (λ (kept : List Kept). forms_over platform (entries_in kept) taken) (filter_all may_lend before lend) in
      let all : AreSame fresh reads =
      same_left _ _ _ (ap (λ (xs : List Entry). filter (λ entry. not (is_whole entry)) reads ++ filter is_whole xs) same) (same_parts is_whole reads) in
      record {
        holds = added_is reads (entries_in before) (entries_in after) (mid_held 0 reads before after put);
        outlasts = λ once.
            let spared : List Entry = entries_in (filter is_spared before) in
            added_is fresh spared (entries_in (filter is_spared after)) (same_then _ (spared ++ reads) (spared ++ fresh) (mid_spared 0 reads before after put once)
            (same_both spared reads spared fresh (same_self spared) (same_back fresh reads all)));
        once = put.once;
      }

  -- only these may
  module _ (after : List Kept) (added own : List Entry) (are : AreAdded (reads_over platform (entries_in before) taken) [] added)
      (lends : AreAdded (reads_over platform (entries_in (filter may_lend before)) taken) [] own)
      (parts : HasParts (bare platform).machine.registers.features added own before after) where
    abbrev forms : Entry → List Entry
    forms = kept_as (bare platform).machine.registers.features

    abbrev is_other : Entry → Bool
    is_other entry = not (is_whole entry)

    -- what was put in as fresh
    abbrev put : List Entry
    put = flat_map forms (filter is_other added) ++ filter is_whole own

    others_same : AreSame (flat_map forms (filter is_other added)) (filter is_other reads)
    others_same =
        let all : List Entry = reads_over platform (entries_in before) taken in
        same_then _ (flat_map forms (filter is_other all)) _ (same_flat forms (filter is_other added) (filter is_other all) (same_filtered is_other added all (gathered_same all added are)))
        (other_forms (bare platform).machine.registers.features all)

    wholes_same : AreSame (filter is_whole added) (filter is_whole reads)
    wholes_same =
        let all : List Entry = reads_over platform (entries_in before) taken in
        same_then _ (filter is_whole all) _ (same_filtered is_whole added all (gathered_same all added are)) (whole_forms (bare platform).machine.registers.features all)

    lent_same : AreSame (filter is_whole own) (filter is_whole lent)
    lent_same =
        let all : List Entry = reads_over platform (entries_in (filter may_lend before)) taken in
        same_then _ (filter is_whole all) _ (same_filtered is_whole own all (gathered_same all own lends)) (whole_forms (bare platform).machine.registers.features all)

    put_same : AreSame put fresh
    put_same = same_both _ _ _ _ others_same lent_same

    mid_has : AreSame (entries_in parts.mid) (entries_in before ++ put)
    mid_has = mid_held 0 put before parts.mid parts.fresh

    after_has : AreSame (entries_in after) (entries_in parts.mid ++ filter is_whole added)
    after_has = due_held 0 (filter is_whole added) parts.mid after parts.due

    from_mid : (entry : Entry) → IsAmong (entries_in parts.mid) entry → IsAmong (entries_in after) entry
    from_mid entry h = after_has.enough entry (among-left (entries_in parts.mid) (filter is_whole added) entry h)

    held_same : AreSame (entries_in after) (entries_in before ++ reads)
    held_same = record {
      within = λ entry h. elim (among_either (entries_in parts.mid) (filter is_whole added) entry (after_has.within entry h)) [
        | inl mid ↦ elim (among_either (entries_in before) put entry (mid_has.within entry mid)) [
          | inl old ↦ among-left (entries_in before) reads entry old
          | inr new ↦ among-right (entries_in before) reads entry (fresh_within entry (put_same.within entry new))
        ]
        | inr due ↦ among-right (entries_in before) reads entry (passed is_whole reads entry (wholes_same.within entry due)).among
      ];
      enough = λ entry h. elim (among_either (entries_in before) reads entry h) [
        | inl old ↦ from_mid entry (mid_has.enough entry (among-left (entries_in before) put entry old))
        | inr read ↦
            let Goal : Bool → Type 0 = λ b. is_whole entry ≡ b → IsAmong (entries_in after) entry in
            let by_kind : (b : Bool) → Goal b = λ b. elim b as Goal [
              | true ↦ λ is. after_has.enough entry (among-right (entries_in parts.mid) (filter is_whole added) entry (wholes_same.enough entry (among_filter is_whole reads entry read is)))
              | false ↦ λ is.
                  let other : IsAmong (flat_map forms (filter is_other added)) entry = others_same.enough entry (among_filter is_other reads entry read (ap not is)) in
                  from_mid entry (mid_has.enough entry (among-right (entries_in before) put entry (among-left (flat_map forms (filter is_other added)) (filter is_whole own) entry other)))
            ] in by_kind (is_whole entry) refl
      ];
    }

    pub parts_read : HasRead platform taken before after
    parts_read = record {
      holds = added_is reads (entries_in before) (entries_in after) held_same;
      outlasts = λ once.
          let spared : List Entry = entries_in (filter is_spared before) in
          let middle : List Entry = entries_in (filter is_spared parts.mid) in
          let lasts : AreSame middle (spared ++ fresh) =
          same_then middle (spared ++ put) (spared ++ fresh) (mid_spared 0 put before parts.mid parts.fresh once) (same_both spared put spared fresh (same_self spared) put_same) in
          added_is fresh spared (entries_in (filter is_spared after))
          (same_then _ middle _ (due_spared 0 (filter is_whole added) parts.mid after parts.due (parts.fresh.once once)) lasts);
      once = λ once. parts.due.put.once (parts.fresh.once once);
    }
