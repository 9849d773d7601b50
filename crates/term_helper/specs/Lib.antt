pub mod TermHelper
