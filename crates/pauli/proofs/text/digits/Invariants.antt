-- `text::digits` meets its contract, by the laws of `Digits`.
use Rattle.pauli.proofs.Numerals.{Digits}
use Rattle.pauli.proofs.text.digits.Given as goal

abbrev pub invariant-loop-c : goal.invariant-loop-c
invariant-loop-c l = Digits l.ds l.c-index l.value
