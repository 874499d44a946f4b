use Rattle.std.proofs.Common.{refl, rules, to_z-of_z}
use Rattle.session.proofs.SettingUp.{first_set_up}
use Rattle.session.proofs.session.Session.set_up.Goals as goal

pub returns : goal.returns
returns c = record {
  answers = first_set_up _ _
      (simp (to_z-of_z, c.ranges.parties, c.ranges.full_rate, c.ranges.step_rate) at c.in_ok-book.ensures.answer) (search rules);
  book = simp (to_z-of_z, c.ranges.parties, c.ranges.full_rate, c.ranges.step_rate) at c.in_ok-book.ensures.begun;
  sheet = refl;
  pages = record { heavy = refl; light = refl };
}
