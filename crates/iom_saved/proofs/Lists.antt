-- Words that are read one after the other.
use Rattle.std.proofs.Common.{◌≡◌, ◌++◌, ◌∙◌, ℕ, List, ◌∷◌, length, sym, ap, append_assoc}

pub take_two : (start mid new a b : List ℕ) → start ≡ a ++ mid → mid ≡ b ++ new → start ≡ (a ++ b) ++ new
take_two start mid new a b first second = first ∙ ap (λ (l : List ℕ). a ++ l) second ∙ sym (append_assoc a b new)

pub take_three : (start one two new a b c : List ℕ) → start ≡ a ++ one → one ≡ b ++ two → two ≡ c ++ new → start ≡ (a ++ (b ++ c)) ++ new
take_three start one two new a b c first second third = take_two start one new a (b ++ c) first (take_two one two new b c second third)

-- a word, and a list behind its number
pub next_list : (words list start mid new : List ℕ) (word : ℕ) → start ≡ word ∷ mid → mid ≡ length list ∷ (list ++ new) →
    words ≡ word ∷ length list ∷ list → start ≡ words ++ new
next_list words list start mid new word first second are =
    first ∙ ap (λ (l : List ℕ). word ∷ l) second ∙ sym (ap (λ (ws : List ℕ). ws ++ new) are)

-- what follows the words of the first of two things
pub split_two : (start a b r : List ℕ) → start ≡ (a ++ b) ++ r → start ≡ a ++ (b ++ r)
split_two start a b r are = are ∙ append_assoc a b r

-- of five
split_four : (start a b c d r : List ℕ) → start ≡ ((a ++ b) ++ (c ++ d)) ++ r → start ≡ a ++ (b ++ (c ++ (d ++ r)))
split_four start a b c d r are =
    are ∙ append_assoc (a ++ b) (c ++ d) r ∙ append_assoc a b ((c ++ d) ++ r) ∙ ap (λ (l : List ℕ). a ++ (b ++ l)) (append_assoc c d r)

pub split_five : (start a b c d e r : List ℕ) → start ≡ ((a ++ b) ++ (c ++ (d ++ e))) ++ r → start ≡ a ++ (b ++ (c ++ (d ++ (e ++ r))))
split_five start a b c d e r are =
    split_four start a b c (d ++ e) r are ∙ ap (λ (l : List ℕ). a ++ (b ++ (c ++ l))) (append_assoc d e r)

-- three things put one behind the other
pub put_three : (start one two new a b c : List ℕ) → one ≡ start ++ a → two ≡ one ++ b → new ≡ two ++ c → new ≡ start ++ (a ++ (b ++ c))
put_three start one two new a b c first second third =
    third ∙ ap (λ (l : List ℕ). l ++ c) (second ∙ ap (λ (l : List ℕ). l ++ b) first) ∙ append_assoc (start ++ a) b c ∙ append_assoc start a (b ++ c)

-- five
put_four : (start one two three new a b c d : List ℕ) → one ≡ start ++ a → two ≡ one ++ b → three ≡ two ++ c → new ≡ three ++ d →
    new ≡ start ++ ((a ++ b) ++ (c ++ d))
put_four start one two three new a b c d first second third fourth =
    fourth ∙ ap (λ (l : List ℕ). l ++ d) (third ∙ ap (λ (l : List ℕ). l ++ c) (second ∙ ap (λ (l : List ℕ). l ++ b) first ∙ append_assoc start a b))
    ∙ append_assoc (start ++ (a ++ b)) c d ∙ append_assoc start (a ++ b) (c ++ d)

pub put_five : (start one two three four new a b c d e : List ℕ) → one ≡ start ++ a → two ≡ one ++ b → three ≡ two ++ c → four ≡ three ++ d →
    new ≡ four ++ e → new ≡ start ++ ((a ++ b) ++ (c ++ (d ++ e)))
put_five start one two three four new a b c d e first second third fourth fifth =
    put_four start one two three new a b c (d ++ e) first second third (fifth ∙ ap (λ (l : List ℕ). l ++ e) fourth ∙ append_assoc three d e)
