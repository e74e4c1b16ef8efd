-- Questions, which are no steps, and the texts of their answers.
use Rattle.std.specs.Prelude.{ℕ, ◌++◌, Bool, List, [], codes, Option, Some, None, slice_get, if◌then◌else◌}
use Rattle.std.specs.Option.{unwrap_or}
use Rattle.iom_bits.specs.Bits.{flag}
use Rattle.iom_bits.specs.Features.{Features}
use Rattle.iom_bits.specs.declared.causes.Kind.{Kind}
use Rattle.iom_bits.specs.declared.causes.Kind.TheVariants.{Read, Write}
use Rattle.iom_mem.specs.Memory.{Memory}
use Rattle.iom_messages.specs.declared.messages.Message.{Message}
use Rattle.iom_ddt.specs.declared.context.Context.{Context}
use Rattle.iom_nested.specs.declared.translation.Hit.{Hit}
use Rattle.iom_cache.specs.Places.{place_in}
use Rattle.iom_cache.specs.declared.key.Key.{Key}
use Rattle.iom_cache.specs.declared.place.Place.{Place}
use Rattle.iom_cache.specs.declared.place.Place.TheVariants.{Beyond, Empty, Live}
use Rattle.iom_items.specs.declared.item.Item.{Item}
use Rattle.iom_ddt.specs.Formats.{context_format}
use Rattle.iom_ddt.specs.declared.formats.ContextFormat.{ContextFormat}
use Rattle.iom_items.specs.Lines.{context_text, item_line_on}
use Rattle.iom_tool.specs.Console.{Console}
use Rattle.iom_text.specs.Texts.{hexadecimal}
use Rattle.iom_tool.specs.Texts.{entry_text}
use Rattle.iom_tool.specs.declared.language.Question.{Question}
use Rattle.iom_tool.specs.declared.language.Question.TheVariants as question

-- a value and its name
abbrev pub named : List ℕ → List ℕ → List ℕ
named name value = codes " " ++ name ++ codes "=" ++ value

abbrev pub id_text : Option ℕ → List ℕ
id_text None = codes "-"
id_text (Some id) = hexadecimal id

abbrev pub kind_text : Kind → List ℕ
kind_text Read = codes "read"
kind_text Write = codes "write"

-- told of a leaf of 64 KiB alone
abbrev pub napot_text : Bool → List ℕ
napot_text napot = if napot then named (codes "napot") (hexadecimal 1) else []

abbrev pub page_text : Key → Hit → List ℕ
page_text key hit =
    codes "page" ++ named (codes "did") (hexadecimal key.did) ++ named (codes "pscid") (id_text key.pscid)
    ++ named (codes "gscid") (id_text key.gscid) ++ named (codes "page") (hexadecimal key.page)
    ++ named (codes "kind") (kind_text key.kind) ++ named (codes "frame") (hexadecimal hit.frame)
    ++ named (codes "level") (hexadecimal hit.level) ++ named (codes "global") (hexadecimal (flag hit.global))
    ++ napot_text hit.napot

-- a place beyond the last one, an empty one, or what a live one holds
unfoldable pub place_text : Place Key Hit → List ℕ
place_text Beyond = codes "none"
place_text Empty = codes "empty"
place_text (Live key hit) = page_text key hit

-- the id of the device, and its context as the item's line, in the format that contexts have
unfoldable pub context_place_text : ContextFormat → Place ℕ Context → List ℕ
context_place_text format Beyond = codes "none"
context_place_text format Empty = codes "empty"
context_place_text format (Live did context) = codes "did=" ++ hexadecimal did ++ codes " " ++ context_text format context

-- the line of an item in memory, on an IOMMU with these features
abbrev pub shown_text : Memory → Features → Item → ℕ → List ℕ
shown_text memory features kind addr = unwrap_or (item_line_on memory features kind addr) (codes "outside")

-- the address and the value of a message
unfoldable pub message_text : Option Message → List ℕ
message_text None = codes "none"
message_text (Some message) = codes "addr=" ++ hexadecimal message.addr ++ named (codes "data") (hexadecimal message.value)

abbrev pub answer_in : Console → Question → List ℕ
answer_in now (question.Page i) = place_text (place_in (slice_get now.state.machine.pages i))
answer_in now (question.Context i) = context_place_text (context_format now.state.machine.registers.features) (place_in (slice_get now.state.machine.contexts i))
answer_in now (question.Show kind addr) = shown_text now.state.machine.memory now.state.machine.registers.features kind addr
answer_in now (question.Trace i) = entry_text (slice_get now.trace i)
answer_in now (question.Message i) = message_text (slice_get now.state.messages.kept i)
