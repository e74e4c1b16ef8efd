-- What a walk notes of the entries that it meets.
use Rattle.std.proofs.Common.{◌≡◌, ◌+◌, ◌-◌, ◌≤◌, ◌++◌, ℕ, zero, suc, List, [], ◌∷◌, length, true, false, refl, sym, ◌∙◌, ap, arith}
use Rattle.std.specs.List.{fold}
use Rattle.std.specs.Prelude.{map, nat_lt}
use Rattle.std.proofs.lemmas.Bool.{lt-ltb}
use Rattle.std.proofs.lemmas.List.{append-nil, append_assoc, length-append, length-map, map-id}
use Rattle.arrayvec.specs.ArrayVec.{ArrayVec}
use Rattle.iom_bits.specs.declared.causes.Kind.{Kind}
use Rattle.iom_walk.specs.declared.rules.EntryRules.{EntryRules}
use Rattle.iom_walk.specs.declared.entry.Ruling.{Ruling}
use Rattle.iom_walk.specs.declared.entry.Verdict.TheVariants as verdict
use Rattle.iom_walk.specs.declared.listing.PathEntry.{PathEntry}
use Rattle.iom_walk.specs.declared.shape.Format.{Format}
use Rattle.iom_walk.specs.declared.source.Got.{Got}
use Rattle.iom_walk.specs.Noted.{kept, met_entry}
use Rattle.iom_walk.specs.Path.{MetEntry, path_from}
use Rattle.iom_walk.specs.Shape.{is_in_width, levels}
use Rattle.iom_walk.specs.Told.{path_entry, path_told}
use Rattle.iom_walk.specs.Verdict.{consequence, is_pointer, ppn, word_of}
use Rattle.iom_walk.proofs.Paths.{path_from_is_path}
use Rattle.iom_walk.proofs.Walks.{IsMet, is_before, is_last, met}

-- the rest of a path, as it is noted
abbrev pub rest : (ℕ → Got) → Format → ℕ → Kind → ℕ → ℕ → List PathEntry
rest at format address kind table count = map (path_entry format.rules kind) (path_from at format address table count)

-- after the last level nothing is noted
pub runs_out : {S : Type 0} (next : S → PathEntry → S) (at : ℕ → Got) (format : Format) (address : ℕ) (kind : Kind) (table count : ℕ) (notes whole : S) →
    fold next notes (rest at format address kind table count) ≡ whole → count ≤ 0 → notes ≡ whole
unfolding path_from
runs_out next at format address kind table zero notes whole left none = left
runs_out next at format address kind table (suc count) notes whole left none = absurd (omega arith)

-- an entry as it is noted
abbrev pub judged : ℕ → ℕ → Got → Ruling → PathEntry
judged count place got ruling = record { place = place; level = count - 1; got = got; ruling = ruling }

-- a turn that returns
pub stops : {S : Type 0} (next : S → PathEntry → S) (at : ℕ → Got) (format : Format) (address : ℕ) (kind : Kind) (table count place : ℕ) (got : Got)
    (ruling : Ruling) (notes after whole : S) →
    fold next notes (rest at format address kind table count) ≡ whole → IsMet at format address kind table count place got ruling →
    is_pointer (consequence ruling (word_of got)) ≡ false → after ≡ next notes (judged count place got ruling) → after ≡ whole
stops next at format address kind table count place got ruling notes after whole left is last put =
    put ∙ ap (λ (r : Ruling). next notes (judged count place got r)) is.ruled
    ∙ ap (λ (path : List MetEntry). fold next notes (map (path_entry format.rules kind) path))
    (is_last at format address kind table count place got ruling is last) ∙ left

-- a turn that goes on
pub turns : {S : Type 0} (next : S → PathEntry → S) (at : ℕ → Got) (format : Format) (address : ℕ) (kind : Kind) (table count place : ℕ) (got : Got)
    (ruling : Ruling) (word pointed : ℕ) (notes after whole : S) →
    fold next notes (rest at format address kind table count) ≡ whole → IsMet at format address kind table count place got ruling →
    verdict.Pointer word ≡ consequence ruling (word_of got) → pointed ≡ ppn word → after ≡ next notes (judged count place got ruling) →
    fold next after (rest at format address kind pointed (count - 1)) ≡ whole
turns next at format address kind table count place got ruling word pointed notes after whole left is points to put =
    ap (λ s. fold next s (rest at format address kind pointed (count - 1))) (put ∙ ap (λ (r : Ruling). next notes (judged count place got r)) is.ruled)
    ∙ ap (λ (path : List MetEntry). fold next notes (map (path_entry format.rules kind) path))
    (ap (λ n. met count place got ∷ path_from at format address n (count - 1)) to
    ∙ is_before at format address kind table count place got ruling is word points) ∙ left

-- a list notes all entries that it has room for
pub all_kept : {X : Type 0} (shown : PathEntry → X) (entries : List PathEntry) (list : ArrayVec X) → length list.items + length entries ≤ 5 →
    (fold (kept shown) list entries).items ≡ list.items ++ map shown entries
all_kept shown [] list few = sym (append-nil list.items)
all_kept {X} shown (entry ∷ more) list few =
    let longer : ArrayVec X = record { items = list.items ++ shown entry ∷ [] } in
    let room : nat_lt (length list.items) 5 ≡ true = lt-ltb _ _ (omega (arith, few)) in
    let put : kept shown list entry ≡ longer = rw room refl in
    ap (λ (l : ArrayVec X). (fold (kept shown) l more).items) put
    ∙ all_kept shown more longer (omega (arith, few, length-append list.items (shown entry ∷ [])))
    ∙ append_assoc list.items (shown entry ∷ []) (map shown more)

-- a path has at most as many entries as levels are left
pub few : (at : ℕ → Got) (format : Format) (address : ℕ) (kind : Kind) (table count : ℕ) → length (rest at format address kind table count) ≤ count
few at format address kind table count =
    rw (length-map (path_from at format address table count) (path_entry format.rules kind)) (path_from_is_path at format address table count).within

-- a list that was empty has the path of the walk, with the rows
all_listed : (at : ℕ → Got) (format : Format) (address : ℕ) (kind : Kind) (table count : ℕ) (list longer : ArrayVec PathEntry) →
    list.items ≡ [] → count ≤ 5 → longer ≡ fold (kept (λ entry. entry)) list (rest at format address kind table count) →
    longer.items ≡ rest at format address kind table count
all_listed at format address kind table count list longer empty five put =
    let path : List PathEntry = rest at format address kind table count in
    ap (λ (l : ArrayVec PathEntry). l.items) put
    ∙ all_kept (λ entry. entry) path list (omega (arith, five, few at format address kind table count, ap length empty))
    ∙ ap (λ xs. xs ++ map (λ entry. entry) path) empty ∙ map-id path

pub listed : (at : ℕ → Got) (format : Format) (address : ℕ) (kind : Kind) (table count : ℕ) (list longer : ArrayVec PathEntry) →
    list.items ≡ [] → count ≡ levels format.shape → count ≤ 5 → is_in_width format.shape address ≡ true →
    longer ≡ fold (kept (λ entry. entry)) list (rest at format address kind table count) → longer.items ≡ path_told at format table address kind
unfolding path_told
listed at format address kind table count list longer empty all five covers put =
    all_listed at format address kind table count list longer empty five put ∙ rw (covers, all) refl

pub listed_within : (at : ℕ → Got) (format : Format) (address : ℕ) (kind : Kind) (table count : ℕ) (list longer : ArrayVec PathEntry) →
    list.items ≡ [] → count ≡ levels format.shape → count ≤ 5 →
    longer ≡ fold (kept (λ entry. entry)) list (rest at format address kind table count) → length longer.items ≤ levels format.shape
listed_within at format address kind table count list longer empty all five put =
    rw (all_listed at format address kind table count list longer empty five put, ← all) (few at format address kind table count)

-- the path as it was noted, without the rows
pub without_rows : (rules : EntryRules) (kind : Kind) (path : List MetEntry) → map met_entry (map (path_entry rules kind) path) ≡ path
without_rows rules kind [] = refl
without_rows rules kind (entry ∷ more) = ap (λ (xs : List MetEntry). entry ∷ xs) (without_rows rules kind more)
