use Rattle.std.proofs.Common.{w64, SFits, refl, rules, to_z-of_z}
use Rattle.session.proofs.session.Session.enter.Goals as goal

pub returns-in-SetUp : goal.returns-in-SetUp
returns-in-SetUp c =
    let parties : SFits w64 c.in-SetUp.parties = search rules in
    let full_rate : SFits w64 c.in-SetUp.full_rate = search rules in
    let step_rate : SFits w64 c.in-SetUp.step_rate = search rules in
    rw c.in-SetUp.is (simp (to_z-of_z, parties, full_rate, step_rate) at c.set_up.ensures)

pub returns-in-DayPrices : goal.returns-in-DayPrices
returns-in-DayPrices c =
    let day : SFits w64 c.in-DayPrices.day = search rules in
    rw c.in-DayPrices.is (record {
      answers = simp (to_z-of_z, day) at c.enter_day.ensures.answer;
      sheet = simp (to_z-of_z, day) at c.enter_day.ensures.sheet;
      book = refl;
      pages = record { heavy = refl; light = refl };
    })

pub returns-in-HourPrices : goal.returns-in-HourPrices
returns-in-HourPrices c =
    let first : SFits w64 c.in-HourPrices.first = search rules in
    let last : SFits w64 c.in-HourPrices.last = search rules in
    rw c.in-HourPrices.is (record {
      answers = simp (to_z-of_z, first, last) at c.enter_hours.ensures.answer;
      sheet = simp (to_z-of_z, first, last) at c.enter_hours.ensures.sheet;
      book = refl;
      pages = record { heavy = refl; light = refl };
    })

pub returns-in-Call : goal.returns-in-Call
returns-in-Call c = rw c.in-Call.is c.call.ensures
