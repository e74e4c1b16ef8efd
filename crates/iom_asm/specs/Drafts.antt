-- What the assembler keeps.
use Rattle.std.specs.Prelude.{Option}
use Rattle.std.specs.Option.{option_map}
use Rattle.iom_asm.specs.declared.draft.ImageDraft as kept
use Rattle.iom_image.specs.Own.{image_seen}
use Rattle.iom_asm.specs.Assembly.{ImageDraftView}

abbrev pub draft_seen : kept.ImageDraft → ImageDraftView
draft_seen draft = record { image = image_seen draft.image; next_address = draft.next_address }

abbrev pub found_seen : Option kept.ImageDraft → Option ImageDraftView
found_seen draft = option_map draft_seen draft
