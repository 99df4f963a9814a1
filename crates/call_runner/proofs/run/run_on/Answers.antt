use Rattle.call_runner.proofs.run.run_on.Goals as goal

pub loop-next-preserved : goal.loop-next-preserved
loop-next-preserved g c = record {
  own = rw c.in-Goes.is at c.in_ok-next.ensures.own;
  few = (rw c.in-Goes.is at c.in_ok-next.ensures.fewer).1;
  come = λ outer at. rw c.in-Goes.is at (c.in_ok-next.ensures.step outer (c.loop-next.invariant.come outer at));
}

pub returns-in-Ends : goal.returns-in-Ends
returns-in-Ends g c = λ outer at. rw c.in-Ends.is at (c.in_ok-next.ensures.step outer (c.loop-next.invariant.come outer at))
