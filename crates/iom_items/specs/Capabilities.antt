-- The operands of the statement `capabilities`: what a machine offers, each feature by its name.
use Rattle.std.specs.Prelude.{ℕ, ◌==◌, ◌^◌, ◌++◌, List, [], ◌∷◌, codes, map, bit_or, Option, Some, None, if◌then◌else◌}
use Rattle.iom_bits.specs.Features.{Feature, Features, interrupts_word, rows, vectors_word}
use Rattle.iom_bits.specs.declared.features.Interrupts.{Interrupts}
use Rattle.iom_bits.specs.declared.features.Interrupts.TheVariants.{Messages, Wires, Choice}
use Rattle.iom_bits.specs.declared.features.Vectors.{Vectors}
use Rattle.iom_bits.specs.declared.features.Vectors.TheVariants.{One, Two, Four}
use Rattle.iom_items.specs.Forms.{where_so}
use Rattle.iom_items.specs.Operands.{◌>>=◌, is_given, are_operands, value_of, flag_for}

-- so many interrupt vectors
abbrev pub vectors_of : ℕ → Option Vectors
vectors_of n = if n == 1 then Some One else if n == 2 then Some Two else if n == 4 then Some Four else None

-- those of key `vectors`; one where it is absent
unfoldable pub vectors_for : List (List ℕ) → Option Vectors
vectors_for words =
    if is_given (codes "vectors") words then (do
      n ← value_of (codes "vectors") words
      vectors_of n)
    else Some One

-- IGS, as register capabilities has it
abbrev pub interrupts_of : ℕ → Option Interrupts
interrupts_of n = if n == 0 then Some Messages else if n == 1 then Some Wires else if n == 2 then Some Choice else None

-- that of key `igs`; 1, interrupts by wire, where it is absent
unfoldable pub interrupts_for : List (List ℕ) → Option Interrupts
interrupts_for words =
    if is_given (codes "igs") words then (do
      n ← value_of (codes "igs") words
      interrupts_of n)
    else Some Wires

-- the name of each feature, the vectors, and IGS
abbrev pub keys_of : List Feature → List (List ℕ)
keys_of table = map (λ (row : Feature). row.name) table ++ codes "vectors" ∷ codes "igs" ∷ []

-- the bits of the features whose key is 1
abbrev pub bits_for : List Feature → List (List ℕ) → Option ℕ
bits_for [] words = Some 0
bits_for (row ∷ table) words = do
  set ← flag_for row.name words
  others ← bits_for table words
  Some (if set then bit_or (2 ^ row.bit) others else others)

-- Svnapot always, and what the operands say
unfoldable pub features_for : List (List ℕ) → Option Features
features_for words = where_so (are_operands (keys_of rows) words) (do
  bits ← bits_for rows words
  vectors ← vectors_for words
  interrupts ← interrupts_for words
  Some (bit_or bits (bit_or (vectors_word vectors) (interrupts_word interrupts))))
