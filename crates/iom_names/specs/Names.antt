-- Names that stand for numbers.
use Rattle.std.specs.Prelude.{ℕ, suc, ◌==◌, ◌&&◌, ◌||◌, ◌++◌, Bool, false, not, nat_le, nat_lt, List, [], ◌∷◌, length, take, drop, codes, bytes_eq, Option, Some, None}
use Rattle.std.specs.List.{flat_map, list_all, position, remove}
use Rattle.std.specs.Result.{result_ok}
use Rattle.iom_text.specs.Texts.{hexadecimal}
use Rattle.iom_items.specs.Forms.{where_so}
use Rattle.iom_items.specs.Operands.{◌>>=◌}
use Rattle.iom_tool.specs.Reserved.{is_reserved}
use Rattle.iom_names.specs.Computing.{number_of, value_of}
use Rattle.iom_names.specs.declared.names.Binding.{Binding}

-- a letter or `_`, with which a name begins
abbrev pub is_letter : ℕ → Bool
is_letter c = nat_le 65 c && nat_le c 90 || (nat_le 97 c && nat_le c 122 || c == 95)

abbrev pub is_name_byte : ℕ → Bool
is_name_byte c = is_letter c || nat_le 48 c && nat_le c 57

abbrev pub begins_so : List ℕ → Bool
begins_so [] = false
begins_so (c ∷ word) = is_letter c

-- the names of items and of commands with their keys, and the words of lines that are about a script itself
unfoldable pub other_words : List (List ℕ)
other_words =
    codes "u64" ∷ codes "cmd" ∷ codes "fault" ∷ codes "context" ∷ codes "dir" ∷ codes "pte" ∷ codes "msi" ∷ codes "vma"
    ∷ codes "gvma" ∷ codes "fence" ∷ codes "iodir" ∷ codes "av" ∷ codes "page" ∷ codes "pscv" ∷ codes "pscid"
    ∷ codes "gv" ∷ codes "gscid" ∷ codes "nl" ∷ codes "s" ∷ codes "wsi" ∷ codes "pr" ∷ codes "pw" ∷ codes "data"
    ∷ codes "addr" ∷ codes "dv" ∷ codes "did" ∷ codes "cause" ∷ codes "pid" ∷ codes "pv" ∷ codes "priv" ∷ codes "ttyp"
    ∷ codes "iotval" ∷ codes "iotval2" ∷ codes "dtf" ∷ codes "custom" ∷ codes "gmode" ∷ codes "gppn" ∷ codes "tav"
    ∷ codes "mode" ∷ codes "ppn" ∷ codes "msimode" ∷ codes "msippn" ∷ codes "msimask" ∷ codes "msipattern" ∷ codes "flags" ∷ codes "let" ∷ codes "include" ∷ []

abbrev pub is_one_of : List (List ℕ) → List ℕ → Bool
is_one_of [] word = false
is_one_of (first ∷ words) word = bytes_eq word first || is_one_of words word

-- at most 32 bytes, and no word that lines have or that could be a number or data
unfoldable pub is_name : List ℕ → Bool
is_name word =
    nat_le (length word) 32 && (begins_so word && (list_all is_name_byte word
    && not (is_reserved word || is_one_of other_words word)))

-- where the value of a word `key=value` begins; of any other it is the whole word
abbrev pub past_equals : Option ℕ → ℕ
past_equals None = 0
past_equals (Some at) = suc at

abbrev pub value_at : List ℕ → ℕ
value_at word = past_equals (position (λ c. c == 61) word)

abbrev pub word_or : List ℕ → List ℕ → Option ℕ → List ℕ
word_or word key None = word
word_or word key (Some n) = key ++ hexadecimal n

-- a word, in which the number stands in place of a name: also behind `=`
abbrev pub replaced : List Binding → List ℕ → List ℕ
replaced names word = word_or word (take (value_at word) word) (number_of names (drop (value_at word) word))

-- the words of a line so, a blank before each
abbrev pub with_numbers : List Binding → List (List ℕ) → List ℕ
with_numbers names words = flat_map (λ word. codes " " ++ replaced names word) words

-- all other names
abbrev pub place_of : List Binding → List ℕ → Option ℕ
place_of names word = position (λ binding. bytes_eq binding.name.items word) names

abbrev pub without_place : List Binding → Option ℕ → List Binding
without_place names None = names
without_place names (Some i) = remove names i

abbrev pub others : List Binding → List ℕ → List Binding
others names word = without_place names (place_of names word)

-- a name gets a number, in place of the one that it had; there are at most 64 names
abbrev pub with_binding : List Binding → Binding → Option (List Binding)
with_binding names binding =
    where_so (nat_lt (length (others names binding.name.items)) 64) (Some (others names binding.name.items ++ binding ∷ []))

-- what `NAME NUMBER ..` gives a name
abbrev pub binding_in : List Binding → List (List ℕ) → Option Binding
binding_in names [] = None
binding_in names (name ∷ words) =
    where_so (is_name name) (result_ok (value_of names words) >>= λ n. Some (record { name = record { items = name }; number = n }))

-- the names after it; None: it gives none
abbrev pub names_by : List Binding → List (List ℕ) → Option (List Binding)
names_by names words = binding_in names words >>= with_binding names
