-- Words is what the contracts say; WordLaws its laws.
pub mod Words
pub mod WordLaws
