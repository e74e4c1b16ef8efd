-- The line of a command is that of its words.
use Rattle.std.proofs.Common.{◌≡◌, ◌∙◌, ℕ, List, Option, Some, ap, subst, sym}
use Rattle.iom_queue.specs.Commands.{CommandFits, command_words, first_word, second_word}
use Rattle.iom_queue.specs.declared.command.Command.{Command}
use Rattle.iom_ddt.specs.declared.formats.ContextFormat.{ContextFormat}
use Rattle.iom_queue.proofs.Encodings.{command_of_words}
use Rattle.iom_items.specs.declared.item.Item.TheVariants as item
use Rattle.iom_items.specs.Layouts.{Layout, title_of}
use Rattle.iom_items.specs.Lines.{Pair, line_of, shown_of, text_by, text_of, with_operands}
use Rattle.iom_items.specs.Reading.{AreTold, command_layout, command_pairs, command_text}
use Rattle.iom_items.proofs.Reading.{reads_commands}

words_line : (format : ContextFormat) (command : Command) → CommandFits command → line_of format item.Cmd (command_words command) ≡ command_text command
unfolding text_of command_text
words_line format command fits =
    let words : List ℕ = command_words command in
    let read : AreTold command_layout command_pairs format item.Cmd words (Some command) =
    subst (AreTold command_layout command_pairs format item.Cmd words) (command_of_words command fits) (reads_commands format (first_word command) (second_word command)) in
    ap (λ (laid : Option Layout). text_by laid words) read.0
    ∙ ap (λ (pairs : List Pair). with_operands (title_of (command_layout command)) (shown_of pairs)) read.1

pub line_is : (format : ContextFormat) (command : Command) (line : List ℕ) → line ≡ command_text command → CommandFits command →
    line ≡ line_of format item.Cmd (command_words command)
line_is format command line is fits = is ∙ sym (words_line format command fits)
