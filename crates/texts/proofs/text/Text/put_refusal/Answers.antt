use Rattle.std.proofs.Common.{◌≤◌, length, append_assoc, length-append, arith}
use Rattle.rules.specs.declared.words.Layer.{Layer}
use Rattle.rules.specs.declared.words.Layer.TheVariants.{Sheet, Register, Round}
use Rattle.rules.specs.Words.{word_of}
use Rattle.texts.proofs.Keeping.{kept_kept}
use Rattle.texts.proofs.text.Text.put_refusal.Goals as goal

word_short : (layer : Layer) → length (word_of layer) ≤ 8
word_short Sheet = omega arith
word_short Register = omega arith
word_short Round = omega arith

pub returns-clause-after : goal.returns-clause-after
returns-clause-after c =
    simp (
      c.put.ensures,
      c.from.ensures,
      c.from-2.ensures,
      c.put_number.ensures.after,
      c.push.ensures,
      c.word.ensures,
      c.as_bytes.ensures.value,
      c.put-2.ensures,
      c.push-2.ensures,
      c.put_number-2.ensures.after,
      c.push-3.ensures,
      kept_kept,
      append_assoc,
    )

pub returns-clause-short : goal.returns-clause-short
returns-clause-short c =
    simp length-append (omega (arith, word_short c.args.refusal.layer, simp (c.from.ensures, c.from-2.ensures) at c.put_number.ensures.short))
