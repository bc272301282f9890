mod FloodLaws
mod WordLaws
