use Rattle.vlog_read.proofs.Answers.{apart, one_net, one_refusal}
use Rattle.vlog_read.proofs.laws.one_answer.Goals as goal

pub returns-clause-net : goal.returns-clause-net
returns-clause-net c = λ bytes a b.
    one_net bytes a b (record {
      phrase = c.one_parse.ensures.read bytes;
      refusal = c.one_parse.ensures.refused bytes;
      apart = c.one_parse.ensures.neither bytes;
    })

pub returns-clause-refusal : goal.returns-clause-refusal
returns-clause-refusal c = λ bytes r s.
    one_refusal bytes r s (record {
      phrase = c.one_parse.ensures.read bytes;
      refusal = c.one_parse.ensures.refused bytes;
      apart = c.one_parse.ensures.neither bytes;
    })

pub returns-clause-apart : goal.returns-clause-apart
returns-clause-apart c = λ bytes a r.
    apart bytes a r (record {
      phrase = c.one_parse.ensures.read bytes;
      refusal = c.one_parse.ensures.refused bytes;
      apart = c.one_parse.ensures.neither bytes;
    })
