-- What the code's table and lines stand for.
use Rattle.std.specs.Prelude.{ℕ, ◌≡◌, ◌+◌, ◌*◌, ◌^◌, ◌<◌, ◌≤◌, List, map, length}
use Rattle.iom_core.specs.declared.step.Step.{Step}
use Rattle.iom_core.specs.declared.step.Step.TheVariants as step
use Rattle.iom_tool.specs.Script.{Again, Asks, Bad, Blank, DebugLine, Does, Inquires, Named, Plain, Row, Stores, meaning, row, stores_at}
use Rattle.iom_tool.specs.Script as part
use Rattle.iom_tool.specs.declared.language.Language.{Language}
use Rattle.iom_tool.specs.declared.language.Inquiry.{Inquiry}
use Rattle.iom_tool.specs.declared.language.Inquiry.TheVariants as inquiry
use Rattle.iom_tool.specs.declared.language.Actor.{Actor}
use Rattle.iom_tool.specs.declared.language.Actor.TheVariants as actor
use Rattle.iom_tool.specs.declared.language.Line.{Line}
use Rattle.iom_tool.specs.declared.language.Line.TheVariants as line
use Rattle.iom_tool.specs.declared.rows.Part.{Part}
use Rattle.iom_tool.specs.declared.rows.Part.TheVariants as own
use Rattle.iom_tool.specs.declared.rows.Row.{Row as OwnRow}

abbrev pub part_as : Part → part.Part
part_as (own.Word name) = part.Word name.now
part_as own.Number = part.Number
part_as own.Register = part.Register
part_as own.BlockRegister = part.BlockRegister
part_as own.Data = part.Data
part_as own.Item = part.Item

abbrev pub row_as : OwnRow → Row
row_as r = row r.0 r.1 (map part_as r.2.now)

-- a row has six parts at most
abbrev pub IsShort : OwnRow → Type 0
IsShort r = length r.2.now ≤ 6

abbrev pub step_of : Actor → Step
step_of actor.Commands = step.Command
step_of (actor.Device dev) = step.Device dev

abbrev pub line_as : Line → DebugLine
line_as line.Blank = Plain Blank
line_as line.Bad = Plain Bad
line_as (line.Does step) = Plain (Does step)
line_as (line.Named step) = Named step
line_as (line.Asks question) = Plain (Asks question)
line_as (line.Inquires inquiry) = Inquires inquiry
line_as (line.Again actor most) = Again (step_of actor) most
line_as (line.Put addr words) = Stores (stores_at addr words.items)

-- the numbers of a question are in their ranges
abbrev pub InRange : Inquiry → Type 0
InRange (inquiry.Stale request) = request.did < 2 ^ 24
InRange (inquiry.Walk request i) = request.did < 2 ^ 24
InRange (inquiry.Dump addr count) = count ≤ 64
InRange (inquiry.Disk dev at count) = count ≤ 64
InRange (inquiry.Ahead did iova len) = (did < 2 ^ 24) × (1 ≤ len) × (len ≤ 2 ^ 24)
InRange other = Unit {0}

abbrev pub Fits : Line → Type 0
Fits (line.Inquires inquiry) = InRange inquiry
Fits (line.Put addr words) = addr + 8 * length words.items ≤ 2 ^ 64
Fits other = Unit {0}

-- these words are this step in each script
unfoldable pub IsStep : List (List ℕ) → Step → Type 0
IsStep words step = (language : Language) → meaning language words ≡ Plain (Does step)
