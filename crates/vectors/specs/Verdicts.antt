-- What a match says of a case. Assumes nothing.
use Rattle.std.specs.Prelude.{◌≡◌, ◌≤◌, Option, IsSomeAnd}
use Rattle.vectors.specs.declared.reading.Trial.{Trial}
use Rattle.vectors.specs.declared.reading.Expected.{Expected}
use Rattle.vectors.specs.declared.reading.Expected.TheVariants.{Exactly, BadSyntax}
use Rattle.pauli.specs.declared.refusal.Reply.{Reply}

-- the reply p is one that x expects: that very one, or for bad syntax a refusal numbered 9, 10 or 11
abbrev pub Expects : Expected → Reply → Type 0
Expects (Exactly due) p = p ≡ due
Expects BadSyntax p = (9 ≤ p.number) × (p.number ≤ 11)

-- the reply, none where no function is known, and the destination are those that the case k expects
abbrev pub IsMatch : Trial → Option Reply → Type 0
IsMatch k p = IsSomeAnd p (Expects k.case.expected) × (k.d.now ≡ k.case.after.now)
