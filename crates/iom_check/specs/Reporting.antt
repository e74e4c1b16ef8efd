-- How test points and notes are told: as text, in TAP 14, and as JUnit's XML.
use Rattle.std.specs.Prelude.{ℕ, ◌==◌, ◌||◌, ◌++◌, List, [], ◌∷◌, codes, Option, Some, None, if◌then◌else◌}
use Rattle.std.specs.List.{flat_map}
use Rattle.iom_text.specs.Texts.{numeral}
use Rattle.iom_debug.specs.Places.{PlaceView, line_in, name_told}
use Rattle.iom_check.specs.declared.pages.Quoting.{Quoting}
use Rattle.iom_check.specs.declared.pages.Quoting.TheVariants as quoting
use Rattle.iom_check.specs.declared.rules.Style.{Style}
use Rattle.iom_check.specs.declared.rules.Style.TheVariants as style

-- a byte in XML
unfoldable pub in_xml : ℕ → List ℕ
in_xml c =
    if c == 38 then codes "&amp;"
    else if c == 60 then codes "&lt;"
    else if c == 62 then codes "&gt;"
    else if c == 34 then codes "&quot;"
    else if c == 39 then codes "&apos;"
    else c ∷ []

-- a byte that stands behind a backslash in a description of TAP 14, `#` and the backslash, and in a quoted text of YAML
abbrev pub quoted_byte : Quoting → ℕ → List ℕ
quoted_byte quoting.Tap c = if c == 35 || c == 92 then 92 ∷ c ∷ [] else c ∷ []
quoted_byte quoting.Yaml c = if c == 34 || c == 92 then 92 ∷ c ∷ [] else c ∷ []
quoted_byte quoting.Xml c = in_xml c

abbrev pub quoted : Quoting → List ℕ → List ℕ
quoted quoting text = flat_map (quoted_byte quoting) text

-- the file's name; without one
abbrev pub class_told : Option (List ℕ) → List ℕ
class_told None = codes "script"
class_told (Some name) = name_told name

-- what a line is told by: the text that it stands in, if the script includes it, or else the script's file
abbrev pub file_of : Option (List ℕ) → Option (List ℕ) → Option (List ℕ)
file_of name None = name
file_of name (Some text) = Some text

-- a line's place
abbrev pub place_told : Option (List ℕ) → PlaceView → List ℕ
place_told name place = line_in (file_of name place.text) place.line

unfoldable pub headed : Option (List ℕ) → PlaceView → List ℕ → List ℕ
headed name place text = place_told name place ++ codes ": " ++ text

-- a test point of TAP, without its head
unfoldable pub tap_point : ℕ → Option (List ℕ) → PlaceView → List ℕ → List ℕ
tap_point number name place title = numeral 10 number ++ codes " - " ++ quoted quoting.Tap (headed name place title) ++ 10 ∷ []

-- its report
unfoldable pub tap_report : Option (List ℕ) → PlaceView → List ℕ → List ℕ
tap_report name place message =
    codes "  ---\n  message: \"" ++ quoted quoting.Yaml (headed name place message) ++ codes "\"\n  ...\n"

-- a test of JUnit, up to its end
unfoldable pub junit_test : Option (List ℕ) → PlaceView → List ℕ → List ℕ
junit_test name place title =
    codes "<testcase classname=\"" ++ quoted quoting.Xml (class_told name) ++ codes "\" name=\"" ++ quoted quoting.Xml (headed None place title)
    ++ codes "\""

unfoldable pub junit_failure : List ℕ → List ℕ
junit_failure message = codes "><failure message=\"" ++ quoted quoting.Xml message ++ codes "\"/></testcase>\n"

-- a test point that passed, of a number and a title
abbrev pub passed_told : Style → ℕ → Option (List ℕ) → PlaceView → List ℕ → List ℕ
passed_told style.Text number name place title = []
passed_told style.Tap number name place title = codes "ok " ++ tap_point number name place title
passed_told style.Junit number name place title = junit_test name place title ++ codes "/>\n"

-- one that failed
abbrev pub failed_told : Style → ℕ → Option (List ℕ) → PlaceView → List ℕ → List ℕ → List ℕ
failed_told style.Text number name place title message = headed name place message ++ 10 ∷ []
failed_told style.Tap number name place title message =
    codes "not ok " ++ tap_point number name place title ++ tap_report name place message
failed_told style.Junit number name place title message = junit_test name place title ++ junit_failure message

-- a note, which is no test point
abbrev pub note_told : Style → Option (List ℕ) → PlaceView → List ℕ → List ℕ
note_told style.Text name place text = headed name place (codes "note: " ++ text) ++ 10 ∷ []
note_told style.Tap name place text = codes "# " ++ headed name place (codes "note: " ++ text) ++ 10 ∷ []
note_told style.Junit name place text = []

-- the sum of a script
abbrev pub sum_told : ℕ → ℕ → List ℕ
sum_told passed failed = numeral 10 passed ++ codes " passed, " ++ numeral 10 failed ++ codes " failed" ++ 10 ∷ []

abbrev pub named_sum : Option (List ℕ) → ℕ → ℕ → List ℕ
named_sum None passed failed = sum_told passed failed
named_sum (Some name) passed failed = name_told name ++ codes ": " ++ sum_told passed failed

abbrev pub tally_told : Style → Option (List ℕ) → ℕ → ℕ → List ℕ
tally_told style.Text name passed failed = named_sum name passed failed
tally_told style.Tap name passed failed = []
tally_told style.Junit name passed failed = []
