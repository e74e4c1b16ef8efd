-- What the entries are found by that may answer a look-up. An entry that fits a look-up has one of its tags.
use Rattle.std.specs.Prelude.{ℕ, ◌+◌, ◌/◌, ◌^◌, ◌==◌, ◌≡◌, true, List, [], ◌∷◌, Option, is_some, if◌then◌else◌}
use Rattle.iom_choices.specs.Systems.{IsAmong}
use Rattle.iom_every.specs.declared.entry.Entry.{Entry}
use Rattle.iom_every.specs.declared.entry.Entry.TheVariants.{Directory as OfDirectory, Device as OfDevice, First as OfFirst, Second as OfSecond, File as OfFile, Page as OfPage}
use Rattle.iom_every.specs.declared.entry.Held.{Held}
use Rattle.iom_held.specs.declared.tags.Tag.{Tag}

abbrev pub tag : ℕ → ℕ → Tag
tag kind part = record { kind = kind; part = part }

-- of an entry of a stage: by its level of 0 or 1; higher ones share one
abbrev pub held_tag : ℕ → Held → Tag
held_tag kind held =
    if held.level == 0 then tag kind held.part
    else if held.level == 1 then tag (kind + 1) held.part
    else tag (kind + 2) 0

abbrev pub tag_of : Entry → Tag
tag_of (OfDirectory level part word) = tag 0 part
tag_of (OfDevice did said) = tag 1 did
tag_of (OfPage key hit) = tag 2 key.page
tag_of (OfFirst gscid pscid held) = held_tag 3 held
tag_of (OfSecond gscid held) = held_tag 6 held
tag_of (OfFile gscid page word) = tag 9 page

-- those of the entries of a stage that may be for this address
abbrev pub stage_tags : ℕ → ℕ → List Tag
stage_tags kind address =
    tag kind (address / 4096) ∷ tag (kind + 1) (address / 4096 / 2 ^ 9) ∷ tag (kind + 2) 0 ∷ []

-- each entry that fits has one of these tags
abbrev pub HaveTags : {X : Type 0} → (Entry → Option X) → List Tag → Type 0
HaveTags fits tags = (entry : Entry) → is_some (fits entry) ≡ true → IsAmong tags (tag_of entry)
