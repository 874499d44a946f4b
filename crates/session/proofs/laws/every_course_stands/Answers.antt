use Rattle.session.proofs.Courses.{course_stands}
use Rattle.session.proofs.laws.every_course_stands.Goals as goal

pub returns : goal.returns
returns c = course_stands
