use Rattle.std.proofs.Common.{slice_index, arith}
use Rattle.book.specs.Books.{state_of}
use Rattle.book.specs.PricedDays.{prices_in}
use Rattle.book.proofs.Settling.{paid_at_place}
use Rattle.book.proofs.book.Book.payments.Goals as goal

pub returns : goal.returns
returns c = λ place buyer is l.
    paid_at_place (state_of c.args.self.now) (prices_in c.args.prices.now) c.args.hours.now.block place buyer
    (slice_index c.args.shares.now buyer) _
    (λ s b. rw is at c.loop-place.invariant.done buyer (omega arith))
    (λ s. absurd (omega arith))
    (λ b. c.loop-place.invariant.rest buyer (omega arith))
