pub mod Choosing
pub mod ClassNames
pub mod ExceptionTexts
pub mod Finally
pub mod FirstNames
pub mod Pushing
pub mod RaisedClass
pub mod Unnaming
