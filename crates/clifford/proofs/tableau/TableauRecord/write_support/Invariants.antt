use Rattle.std.proofs.Common.{length}
use Rattle.clifford.specs.Layout.{tableau_of}
use Rattle.clifford.specs.Support.{support_qubits}
use Rattle.clifford.proofs.SupportQubits.{WroteTo}
use Rattle.clifford.proofs.tableau.TableauRecord.write_support.Given as goal

abbrev pub invariant-writing : goal.invariant-writing
invariant-writing l = WroteTo (support_qubits (tableau_of l.self.bytes.now)) l.initial.dst (length l.yielded) l.dst
