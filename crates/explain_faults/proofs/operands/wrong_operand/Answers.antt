use Rattle.explain_faults.proofs.operands.wrong_operand.Goals as goal

pub returns-clause-wrong : goal.returns-clause-wrong
returns-clause-wrong c = λ e. record {
  end = c.faulty_end-end.ensures.end;
  counted = c.faulty_end-end.ensures.counted;
  fault = c.faulty_end-end.ensures.fault;
  first = c.faulty_end-end.ensures.first;
  starts = c.operand_start.ensures.starts;
}
