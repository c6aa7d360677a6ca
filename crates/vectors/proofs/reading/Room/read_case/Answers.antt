use Rattle.std.proofs.Common.{rules, ap, sym, subst, ◌∙◌, [], get_or}
use Rattle.vectors.specs.Lines.{Says}
use Rattle.vectors.proofs.Fields.{six_fields}
use Rattle.vectors.proofs.reading.Room.read_case.Goals as goal

pub returns-clause-says : goal.returns-clause-says
returns-clause-says c =
    let e = six_fields _ c.args.line.now
    c.split-fields.result c.next.new.self c.next-2.new.self c.next-3.new.self c.next-4.new.self c.next-5.new.self c.next-6.new.self
    c.in_ok-next.field-0 c.in_ok-next-2.field-0 c.in_ok-next-3.field-0 c.in_ok-next-4.field-0 c.in_ok-next-5.field-0 c.in_ok-next-6.field-0
    c.split-fields.ensures.rest c.split-fields.ensures.done c.split-fields.ensures.closure (λ x b q k. search rules)
    c.in_ok-next.ensures.steps c.in_ok-next-2.ensures.steps c.in_ok-next-3.ensures.steps c.in_ok-next-4.ensures.steps c.in_ok-next-5.ensures.steps c.in_ok-next-6.ensures.steps in
    record {
      name = ap (λ l. get_or l 0 []) e.1 ∙ search rules;
      n1 = subst (λ s. Says s c.in_ok-n1.n1) (sym (ap (λ l. get_or l 3 []) e.1)) (c.in_ok-n1.ensures.0.0, sym c.in_ok-n1.ensures.1);
      n2 = subst (λ s. Says s c.in_ok-n2.n2) (sym (ap (λ l. get_or l 4 []) e.1)) (c.in_ok-n2.ensures.0.0, sym c.in_ok-n2.ensures.1);
      n3 = subst (λ s. Says s c.in_ok-n3.n3) (sym (ap (λ l. get_or l 5 []) e.1)) (c.in_ok-n3.ensures.0.0, sym c.in_ok-n3.ensures.1);
    }
