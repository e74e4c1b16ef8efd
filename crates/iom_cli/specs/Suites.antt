-- The text that `check` writes about whole scripts: the sum over them, and the frames of TAP 13 and of JUnit's XML.
use Rattle.std.specs.Prelude.{ℕ, ◌+◌, ◌^◌, ◌-◌, ◌==◌, ◌++◌, ◌∷◌, ◌&&◌, ◌||◌, [], Bool, nat_lt, nat_le, min, List, codes, take, bytes_eq, if◌then◌else◌}
use Rattle.std.specs.List.{flat_map}
use Rattle.hex.specs.Hex.{encode_lower}
use Rattle.iom_text.specs.Texts.{numeral}
use Rattle.iom_cli.specs.declared.suites.Sum.{Sum}

-- a file that is an image begins so, whatever its version
abbrev pub begins_as_image : List ℕ → Bool
begins_as_image bytes = bytes_eq (take 7 bytes) (codes "RVIOMMU")

-- the status that `check` ends with
abbrev pub check_status : Sum → ℕ
check_status sum = if nat_lt 0 sum.unread then 3 else if nat_lt 0 sum.failed then 1 else 0

abbrev pub files_text : ℕ → List ℕ
files_text count = numeral 10 count ++ (if count == 1 then codes " file: " else codes " files: ")

-- empty if there are none
abbrev pub unread_text : ℕ → List ℕ
unread_text count = if count == 0 then [] else codes ", " ++ numeral 10 count ++ codes " not read"

-- the sum over files: `3 files: 30 passed, 2 failed, 1 not read`
abbrev pub sum_text : Sum → List ℕ
sum_text sum =
    files_text sum.scripts ++ numeral 10 sum.passed ++ codes " passed, " ++ numeral 10 sum.failed ++ codes " failed"
    ++ unread_text sum.unread ++ 10 ∷ []

-- TAP: the plan, which stands at the end
abbrev pub plan_text : ℕ → List ℕ
plan_text points = codes "1.." ++ numeral 10 points ++ 10 ∷ []

-- TAP: a byte of a description, in which `#` begins a directive
abbrev pub tap_shown : ℕ → List ℕ
tap_shown c = if c == 35 || c == 92 then 92 ∷ c ∷ [] else c ∷ []

-- TAP: a test point that is not ok
abbrev pub fault_point : ℕ → List ℕ → List ℕ
fault_point number text = codes "not ok " ++ numeral 10 number ++ codes " - " ++ flat_map tap_shown text ++ 10 ∷ []

abbrev pub xml_hex : ℕ → List ℕ
xml_hex c = codes "\\x" ++ encode_lower (c ∷ [])

-- XML: a byte of an attribute; one that isn't printable is written in hex
unfoldable pub xml_shown : ℕ → List ℕ
xml_shown c =
    if c == 38 then codes "&amp;"
    else if c == 60 then codes "&lt;"
    else if c == 62 then codes "&gt;"
    else if c == 34 then codes "&quot;"
    else if c == 39 then codes "&apos;"
    else if nat_le 32 c && nat_le c 126 then c ∷ []
    else xml_hex c

abbrev pub xml_text : List ℕ → List ℕ
xml_text text = flat_map xml_shown text

-- XML: an attribute
unfoldable pub attribute : List ℕ → List ℕ → List ℕ
attribute name value = 32 ∷ name ++ codes "=\"" ++ value ++ codes "\""

-- XML: a script that could not be judged to its end
abbrev pub error_case : List ℕ → List ℕ → List ℕ
error_case name message =
    codes "<testcase" ++ attribute (codes "classname") (xml_text name) ++ attribute (codes "name") (xml_text name)
    ++ codes "><error" ++ attribute (codes "message") (xml_text message) ++ codes "/></testcase>" ++ 10 ∷ []

-- how many test cases there are
abbrev pub cases : Sum → ℕ
cases sum = min (min (sum.passed + sum.failed) (2 ^ 64 - 1) + sum.unread) (2 ^ 64 - 1)

-- XML: what stands before the test cases of a suite of this name
unfoldable pub suite_head : List ℕ → Sum → List ℕ
suite_head name sum =
    codes "<testsuite" ++ attribute (codes "name") (xml_text name) ++ attribute (codes "tests") (numeral 10 (cases sum))
    ++ attribute (codes "failures") (numeral 10 sum.failed) ++ attribute (codes "errors") (numeral 10 sum.unread) ++ codes ">" ++ 10 ∷ []

-- XML: a suite with its test cases
abbrev pub suite_text : List ℕ → Sum → List ℕ → List ℕ
suite_text name sum cases_text = suite_head name sum ++ cases_text ++ codes "</testsuite>" ++ 10 ∷ []
