-- What a store is seen as.
use Rattle.std.specs.Prelude.{List}
use Rattle.engine.specs.declared.state.Frame.{Frame}
use Rattle.engine.specs.declared.state.Cell.{Cell}

-- the frames in use, the top one first, and the cells in use, in the order in which they were made
pub record Contents : Type 0 where
  pub frames : List Frame
  pub cells : List Cell
