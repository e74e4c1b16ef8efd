-- What is encoded decodes to itself, field by field.
use Rattle.std.proofs.Common.{◌≡◌, ◌*◌, ◌≤◌, ℕ, Bool, true, false, Some, arith}
use Rattle.std.proofs.lemmas.Grind.{common_steps}
use Rattle.iom_bits.specs.Bits.{has_bit, flag, field_of}
use Rattle.iom_queue.specs.Commands.{CommandFits, first_word, second_word, with_words, command_words, command_of}
use Rattle.iom_queue.specs.declared.command.Command.{Command}
use Rattle.iom_queue.specs.declared.command.Command.TheVariants.{Vma, Gvma, Fence, Iodir}

-- a flag is 0 or 1
small : (set : Bool) → flag set ≤ 1
small true = omega arith
small false = omega arith

-- a field of one bit holds the flag that was put there
told : (word low : ℕ) (set : Bool) → field_of word low 1 ≡ flag set → has_bit word low ≡ set
unfolding has_bit
told word low true e = grind (arith, e)
told word low false e = grind (arith, e)

-- a command with its own words is kept
kept : (command : Command) → with_words (first_word command) (second_word command) (Some command) ≡ Some command
kept command = grind (arith, common_steps)

pub command_of_words : (command : Command) → CommandFits command → command_of (command_words command) ≡ Some command
unfolding command_of
command_of_words (Vma av page pscv pscid gv gscid nl s) fits =
    let first : ℕ = first_word (Vma av page pscv pscid gv gscid nl s) in
    let second : ℕ = second_word (Vma av page pscv pscid gv gscid nl s) in
    let opcode : field_of first 0 7 ≡ 1 = omega (arith, small av, small pscv, small gv, small nl, fits.1, fits.2) in
    let func3 : field_of first 7 3 ≡ 0 = omega (arith, small av, small pscv, small gv, small nl, fits.1, fits.2) in
    let av_there : field_of first 10 1 ≡ flag av = omega (arith, small av, small pscv, small gv, small nl, fits.1, fits.2) in
    let pscid_there : field_of first 12 20 ≡ pscid = omega (arith, small av, small pscv, small gv, small nl, fits.1, fits.2) in
    let pscv_there : field_of first 32 1 ≡ flag pscv = omega (arith, small av, small pscv, small gv, small nl, fits.1, fits.2) in
    let gv_there : field_of first 33 1 ≡ flag gv = omega (arith, small av, small pscv, small gv, small nl, fits.1, fits.2) in
    let gscid_there : field_of first 44 16 ≡ gscid = omega (arith, small av, small pscv, small gv, small nl, fits.1, fits.2) in
    let nl_there : field_of first 34 1 ≡ flag nl = omega (arith, small av, small pscv, small gv, small nl, fits.1, fits.2) in
    let s_there : field_of second 9 1 ≡ flag s = omega (arith, small s) in
    let page_there : field_of second 10 52 ≡ page = omega (arith, small s, fits.0) in
    rw (opcode, func3, told first 10 av av_there, told first 32 pscv pscv_there, told first 33 gv gv_there, told first 34 nl nl_there, told second 9 s s_there, pscid_there, gscid_there, page_there)
    (kept (Vma av page pscv pscid gv gscid nl s))
command_of_words (Gvma av page pscid gv gscid nl s) fits =
    let first : ℕ = first_word (Gvma av page pscid gv gscid nl s) in
    let second : ℕ = second_word (Gvma av page pscid gv gscid nl s) in
    let opcode : field_of first 0 7 ≡ 1 = omega (arith, small av, small gv, small nl, fits.1, fits.2) in
    let func3 : field_of first 7 3 ≡ 1 = omega (arith, small av, small gv, small nl, fits.1, fits.2) in
    let av_there : field_of first 10 1 ≡ flag av = omega (arith, small av, small gv, small nl, fits.1, fits.2) in
    let pscid_there : field_of first 12 20 ≡ pscid = omega (arith, small av, small gv, small nl, fits.1, fits.2) in
    let gv_there : field_of first 33 1 ≡ flag gv = omega (arith, small av, small gv, small nl, fits.1, fits.2) in
    let gscid_there : field_of first 44 16 ≡ gscid = omega (arith, small av, small gv, small nl, fits.1, fits.2) in
    let nl_there : field_of first 34 1 ≡ flag nl = omega (arith, small av, small gv, small nl, fits.1, fits.2) in
    let s_there : field_of second 9 1 ≡ flag s = omega (arith, small s) in
    let page_there : field_of second 10 52 ≡ page = omega (arith, small s, fits.0) in
    rw (opcode, func3, told first 10 av av_there, told first 33 gv gv_there, told first 34 nl nl_there, told second 9 s s_there, pscid_there, gscid_there, page_there)
    (kept (Gvma av page pscid gv gscid nl s))
command_of_words (Fence av wsi pr pw value addr) fits =
    let first : ℕ = first_word (Fence av wsi pr pw value addr) in
    let second : ℕ = second_word (Fence av wsi pr pw value addr) in
    let opcode : field_of first 0 7 ≡ 2 = omega (arith, small av, small wsi, small pr, small pw) in
    let func3 : field_of first 7 3 ≡ 0 = omega (arith, small av, small wsi, small pr, small pw) in
    let av_there : field_of first 10 1 ≡ flag av = omega (arith, small av, small wsi, small pr, small pw) in
    let wsi_there : field_of first 11 1 ≡ flag wsi = omega (arith, small av, small wsi, small pr, small pw) in
    let pr_there : field_of first 12 1 ≡ flag pr = omega (arith, small av, small wsi, small pr, small pw) in
    let pw_there : field_of first 13 1 ≡ flag pw = omega (arith, small av, small wsi, small pr, small pw) in
    let value_there : field_of first 32 32 ≡ value = omega (arith, small av, small wsi, small pr, small pw, fits.0) in
    let addr_there : 4 * field_of second 0 62 ≡ addr = omega (arith, fits.1, fits.2) in
    rw (opcode, func3, told first 10 av av_there, told first 11 wsi wsi_there, told first 12 pr pr_there, told first 13 pw pw_there, value_there, addr_there)
    (kept (Fence av wsi pr pw value addr))
command_of_words (Iodir dv did) fits =
    let first : ℕ = first_word (Iodir dv did) in
    let opcode : field_of first 0 7 ≡ 3 = omega (arith, small dv) in
    let func3 : field_of first 7 3 ≡ 0 = omega (arith, small dv) in
    let dv_there : field_of first 33 1 ≡ flag dv = omega (arith, small dv) in
    let did_there : field_of first 40 24 ≡ did = omega (arith, small dv, fits) in
    rw (opcode, func3, told first 33 dv dv_there, did_there)
    (kept (Iodir dv did))
