-- The printed case of FORMAT.md, "The program bucketlines", proved of the definition by computing.
use mathlib.Core.Path.{◌≡◌, refl}
use Rattle.wire.specs.Numbers.{each}
use Rattle.calls.specs.Computing.{computing}
use Rattle.calls.specs.Answers.{discard}
use Rattle.reader.specs.Heads.{call_byte}
use Rattle.lines.specs.Digits.{last_digits, width, decimal, signed, hexadecimal}
use Rattle.lines.specs.Lines.{line, words, numbers, key_words, row_words, unreserved_words, end_words, field_words, change_lines, refused_line}
use Rattle.lines.specs.Program.{answer_by_byte, answer_lines, bucket_lines}
use Rattle.lines.specs.Printed.{printed_list, printed_text}

pub printed : bucket_lines printed_list ≡ printed_text
unfolding computing discard last_digits width decimal signed hexadecimal line words numbers key_words row_words unreserved_words end_words field_words change_lines refused_line answer_by_byte answer_lines bucket_lines each call_byte
printed = refl
