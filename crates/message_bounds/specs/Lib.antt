-- What it is for a message to be held, and the logarithm and the exponential.
pub mod Bounded
pub mod Ln
pub mod Exp
pub mod LogNormalize
-- What grades and inputs send, and what factors send.
pub mod Variable
pub mod Normalized
pub mod Factors
-- What trees send: up to the root, and down again.
pub mod Held
pub mod Zeros
pub mod Products
pub mod Joint
pub mod DotProducts
pub mod Likelihoods
pub mod TreeLayers
pub mod Trees
-- What an accepted call brings to it, and the whole.
pub mod Accepted
pub mod Sending
pub mod Bounds
pub mod CallByParts
-- What the answer holds: beliefs, amounts and endings.
pub mod Answers
pub mod Beliefs
pub mod Residuals
pub mod OutgoingApart
pub mod AmountBounds
pub mod Amounts
pub mod Printed
