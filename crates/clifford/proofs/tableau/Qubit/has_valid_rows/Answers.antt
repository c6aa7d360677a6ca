use Rattle.std.proofs.Common.{arith, refl}
use Rattle.std.proofs.lemmas.Grind.{common_steps}
use Rattle.std.proofs.lemmas.Bool.Decides.{nat_tests}
use Rattle.clifford.specs.Layout.{tableau_of}
use Rattle.clifford.proofs.IsValid.{qubit_is}
use Rattle.clifford.proofs.tableau.Qubit.has_valid_rows.Goals as goal

pub returns-then-phase-lt2-2 : goal.returns-then-phase-lt2-2
returns-then-phase-lt2-2 c =
    let e = qubit_is (tableau_of c.args.self.now.bytes.now) c.args.self.now.q c.row-x.ensures.image c.row-z.ensures.image refl refl refl in
    grind (arith, common_steps, nat_tests)

pub returns-else-phase-lt2-2 : goal.returns-else-phase-lt2-2
returns-else-phase-lt2-2 c =
    let e = qubit_is (tableau_of c.args.self.now.bytes.now) c.args.self.now.q c.row-x.ensures.image c.row-z.ensures.image refl refl refl in
    grind (arith, common_steps, nat_tests)
