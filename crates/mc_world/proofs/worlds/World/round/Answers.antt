use Rattle.std.proofs.Common.{◌||◌}
use Rattle.mc_world.specs.Acts.{NoClient, NoLink}
use Rattle.mc_world.specs.Worlds.{CourseState}
use Rattle.mc_world.specs.declared.acts.Act.TheVariants.{PutAnswer, ReachProxy, ReachServer, Serve, TakeBytes, TakeReply, TakeRequest}
use Rattle.mc_world.proofs.PoolEvents.AppliesLemmas.{at_error}
use Rattle.mc_world.proofs.Drain.DrainLemmas.{drained, drained_then, over_then}
use Rattle.mc_world.proofs.worlds.World.round.Goals as goal

pub returns-in_err-served-clause-err : goal.returns-in_err-served-clause-err
returns-in_err-served-clause-err g c =
    at_error _ c.from_residual-in_err-served.result (drained_then c.args.moment c.args.self.now c.take_requests.new.self c.serve_all.new.self
    (drained c.args.moment c.in_ok-taken.taken c.args.self.now c.take_requests.new.self c.in_ok-taken.ensures.over.goes) c.in_err-served.ensures.err)

pub returns-in_err-answered-clause-err : goal.returns-in_err-answered-clause-err
returns-in_err-answered-clause-err g c =
    at_error _ c.from_residual-in_err-answered.result (drained_then c.args.moment c.args.self.now c.take_requests.new.self c.answer_all.new.self
    (drained c.args.moment c.in_ok-taken.taken c.args.self.now c.take_requests.new.self c.in_ok-taken.ensures.over.goes)
    (drained_then c.args.moment c.take_requests.new.self c.serve_all.new.self c.answer_all.new.self
    (drained c.args.moment c.in_ok-served.served c.take_requests.new.self c.serve_all.new.self c.in_ok-served.ensures.over.goes) c.in_err-answered.ensures.err))

-- if no part did anything, no act applied
pub returns-clause-over : goal.returns-clause-over
returns-clause-over g c =
    let m = c.args.moment in
    let Requests = λ (s : CourseState). NoClient m (λ x. TakeRequest x) s in
    let Served = λ (s : CourseState). NoLink m (λ p x. ReachServer p x) s × NoLink m (λ p x. Serve p x) s × NoLink m (λ p x. ReachProxy p x) s × NoLink m (λ p x. TakeReply p x) s in
    let Answers = λ (s : CourseState). NoClient m (λ x. PutAnswer x) s × NoClient m (λ x. TakeBytes x) s in
    let taken = c.in_ok-taken.taken in
    let served = c.in_ok-served.served in
    let over = over_then m (λ s. Requests s × Served s) Answers (taken || served) c.in_ok-answered.answered c.args.self.now c.serve_all.new.self c.answer_all.new.self
    (over_then m Requests Served taken served c.args.self.now c.take_requests.new.self c.serve_all.new.self c.in_ok-taken.ensures.over c.in_ok-served.ensures.over)
    c.in_ok-answered.ensures.over in
    record {
      goes = over.goes;
      idle = λ none. let all = over.idle none in
          record {
            ends = c.requires.ended;
            requests = all.0.0;
            going = all.0.1.0;
            served = all.0.1.1;
            coming = all.0.1.2;
            replies = all.0.1.3;
            answers = all.1.0;
            taken = all.1.1;
          };
    }

pub returns-clause-round : goal.returns-clause-round
returns-clause-round g c = record {
  taken = c.take_requests.new.self.course;
  served = c.serve_all.new.self.course;
  requests = c.in_ok-taken.ensures.requests;
  servers = c.in_ok-served.ensures.servers;
  answers = c.in_ok-answered.ensures.answers;
}
