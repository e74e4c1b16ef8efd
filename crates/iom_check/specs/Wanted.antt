-- The answer that a line's comment wants, `# => ANSWER`, or how it begins, `# => FRONT*`, and the access: a stale one, `# => ANSWER stale`, or one
-- that isn't settled, `# => ANSWER unsettled`; `# => any unsettled` with each answer.
use Rattle.std.specs.Prelude.{ℕ, ◌-◌, ◌==◌, ◌&&◌, ◌||◌, Bool, false, not, nat_lt, List, [], ◌∷◌, length, take, drop, get_or, codes, bytes_eq, Option, Some, None, if◌then◌else◌}
use Rattle.iom_text.specs.Words.{is_blank}
use Rattle.iom_items.specs.Operands.{◌>>=◌}
use Rattle.iom_debug.specs.Comments.{comment_of, past_blanks, without_blanks}

-- what follows `=>`, without blanks around it
abbrev pub answer_in : List ℕ → Option (List ℕ)
answer_in comment =
    if bytes_eq (take 2 comment) (codes "=>") then Some (without_blanks (drop 2 comment)) else None

-- a line's wish
unfoldable pub wanted : List ℕ → Option (List ℕ)
wanted text = do
  comment ← comment_of text
  answer_in (past_blanks comment)

-- the last word of a wish is `stale`, and something stands before it
abbrev pub wants_stale : List ℕ → Bool
wants_stale wish =
    nat_lt 5 (length wish) && (is_blank (get_or wish (length wish - 6) 0) && bytes_eq (drop (length wish - 5) wish) (codes "stale"))

-- the same of `unsettled`
abbrev pub wants_unsettled : List ℕ → Bool
wants_unsettled wish =
    nat_lt 9 (length wish) && (is_blank (get_or wish (length wish - 10) 0) && bytes_eq (drop (length wish - 9) wish) (codes "unsettled"))

-- the answer that a wish wants
abbrev pub answer_of : List ℕ → List ℕ
answer_of wish =
    if wants_stale wish then without_blanks (take (length wish - 6) wish)
    else if wants_unsettled wish then without_blanks (take (length wish - 10) wish)
    else wish

-- each answer but `bad` serves, as on a line without a wish
abbrev pub takes_any : List ℕ → Bool
takes_any wish = wants_unsettled wish && bytes_eq (answer_of wish) (codes "any")

-- a wanted answer is a pattern if its last byte is `*`
abbrev pub is_pattern : List ℕ → Bool
is_pattern want = nat_lt 0 (length want) && get_or want (length want - 1) 0 == 42

abbrev pub begins_with : List ℕ → List ℕ → Bool
begins_with text front = bytes_eq front (take (length front) text)

-- a pattern is served by each answer that begins with what stands before its `*`, another wanted answer by itself alone
unfoldable pub serves : List ℕ → List ℕ → Bool
serves want answer = if is_pattern want then begins_with answer (take (length want - 1) want) else bytes_eq want answer

abbrev pub is_wanted : List ℕ → List ℕ → Bool
is_wanted wish answer = if takes_any wish then not (bytes_eq answer (codes "bad")) else serves (answer_of wish) answer

-- `>`, perhaps behind blanks, `=` and `-`
abbrev pub is_arrow : List ℕ → Bool
is_arrow [] = false
is_arrow (c ∷ text) = c == 62 || ((is_blank c || (c == 61 || c == 45)) && is_arrow text)

-- behind some `#` stands such an arrow
abbrev pub has_arrow : List ℕ → Bool
has_arrow [] = false
has_arrow (c ∷ text) = (c == 35 && is_arrow text) || has_arrow text
