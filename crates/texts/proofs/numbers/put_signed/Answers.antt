-- `texts::numbers::put_signed` meets its contract: each need is arithmetic, a law that is imported, or what a callee promised.
use borrow.Author.Rules.{rules}
use Rattle.texts.proofs.Writing.{said, on}
use Rattle.texts.proofs.Digits.{signed-plain, signed_below, signed-wide}
use Rattle.texts.proofs.numbers.put_signed.Goals as goal

pub returns-then-word-lt2147483648 : goal.returns-then-word-lt2147483648
returns-then-word-lt2147483648 c =
    said
    (signed-plain c.args.word (search rules))
    c.put_number.ensures

pub returns-then-word-lt4294967296 : goal.returns-then-word-lt4294967296
returns-then-word-lt4294967296 c =
    said
    (signed_below c.args.word (search rules) (search rules))
    (on c.put_byte-p.ensures c.put_number-then-word-lt4294967296.ensures)

pub returns : goal.returns
returns c =
    said
    (signed-wide c.args.word (search rules) (search rules))
    c.put_number-2.ensures
