-- The claims on calls (specs/Claims.antt), a file each; Items, Frame and Within carry demand 3.
pub mod Items
pub mod Frame
pub mod Within
pub mod Whole
pub mod SameResult
pub mod ListedNumber
pub mod RefusalWritesNothing
pub mod Says
pub mod StepSays
pub mod RequestSays
pub mod CallSays
pub mod RefusedExactly
pub mod OwnNumbers
pub mod StaysSound
pub mod OnlyCopyCounts
pub mod EitherOrder
