-- The texts that a script includes, each between two lines that mark it.
use Rattle.std.specs.Prelude.{ℕ, ◌≡◌, ◌++◌, ◌-◌, ◌==◌, ◌&&◌, Bool, not, nat_lt, List, [], ◌∷◌, length, take, get_or, Option, Some, None, if◌then◌else◌}
use Rattle.std.specs.List.{position}
use Rattle.std.specs.Option.{option_map}
use Rattle.iom_debug.specs.Marks.{begin_sign, end_sign}

-- a name as a mark has it: what stands before a line end, and of that 510 bytes
abbrev pub before : Option ℕ → List ℕ → List ℕ
before None name = name
before (Some at) name = take at name

abbrev pub mark_name : List ℕ → List ℕ
mark_name name = take 510 (before (position (λ c. c == 10) name) name)

-- the last line of a text lacks its end
abbrev pub is_open : List ℕ → Bool
is_open text = nat_lt 0 (length text) && not (get_or text (length text - 1) 10 == 10)

abbrev pub end_of : List ℕ → List ℕ
end_of text = if is_open text then 10 ∷ [] else []

-- a text of this name between its marks
abbrev pub marked : List ℕ → List ℕ → List ℕ
marked name text = (((begin_sign ++ mark_name name ++ 10 ∷ []) ++ text) ++ end_of text) ++ (end_sign ++ 10 ∷ [])

abbrev pub marked_texts : Option (List ℕ → List ℕ) → Option (List ℕ → List ℕ)
marked_texts known = option_map (λ texts name. marked name (texts name)) known

-- it is a text that is given, between its marks
abbrev pub IsMarkedText : (List ℕ → List ℕ → Type 0) → List ℕ → List ℕ → Type 0
IsMarkedText gives name text = (own : List ℕ) × gives name own × (text ≡ marked name own)
